-- Where a sheet that was read lies in its bytes: the decoded sheet that a layout stands for, and the bounds that code needs.
-- Assumes nothing.
use Rattle.std.specs.Prelude.{◌≡◌, List, ℕ, ◌+◌, ◌*◌, ◌≤◌, ◌<◌, length, get_or}
use Rattle.records.specs.Meaning.Lists.{tab}
use Rattle.records.specs.Meaning.Limits.{max_monitors}
use Rattle.sheet.specs.Meaning.Decoded.{Automaton, Decoded, SheetOk, letters_read, guard_lines}
use Rattle.sheet.specs.Model.Layout.{no_monitor}
use Rattle.sheet.specs.declared.layout.Monitor.{Monitor}
use Rattle.sheet.specs.declared.layout.Sheet.{Sheet}

-- the letters of a monitor's rows
abbrev pub width : Sheet → Monitor → ℕ
width h m = letters_read m.role h.site h.outputs

-- the automaton whose accept bytes and rows lie where the layout says
unfoldable pub automaton : List ℕ → Sheet → Monitor → Automaton
automaton s h m =
    record {
      role = m.role;
      weight = m.weight;
      start = m.start;
      accept = tab m.states (λ q. get_or s (m.accept + q) 0);
      rows = tab m.states (λ q. tab (width h m) (λ l. get_or s (m.rows + (q * width h m + l)) 0));
    }

-- monitor j of a layout
abbrev pub placed : Sheet → ℕ → Monitor
placed h j = get_or h.monitors j no_monitor

-- the sheet that a layout over these bytes stands for
unfoldable pub decoded : List ℕ → Sheet → Decoded
decoded s h =
    record {
      mode = h.mode;
      site = h.site;
      outputs = h.outputs;
      horizon = h.horizon;
      matching = h.matching;
      literals = tab h.outputs (λ j. get_or h.literals j 0);
      monitors = tab h.count (λ j. automaton s h (placed h j));
    }

-- a layout that code can follow: it stands for a sheet in bounds, and every monitor lies inside the bytes
pub record Fits (s : List ℕ) (h : Sheet) : Type 0 where
  pub ok : SheetOk (decoded s h)
  pub count : h.count ≤ max_monitors
  pub inputs : h.inputs ≡ guard_lines h.mode h.site h.outputs
  pub accept : (j : ℕ) → j < h.count → (placed h j).accept + (placed h j).states ≤ length s
  pub rows : (j : ℕ) → j < h.count → (placed h j).rows + (placed h j).states * width h (placed h j) ≤ length s
