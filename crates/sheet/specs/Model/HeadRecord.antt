-- The model of the head's record: its fields judged, and the sheet that they give.
-- Assumes nothing.
use Rattle.std.specs.Prelude.{cond, List, [], ◌∷◌, ℕ, replicate, Result, Ok, Err}
use Rattle.records.specs.Meaning.Limits.{max_monitors, horizon_ok}
use Rattle.sheet_fields.specs.Meaning.Places.{mode_at, site_at, outputs_at, horizon_at, matching_at}
use Rattle.sheet_fields.specs.Meaning.Lines.{guard_lines}
use Rattle.sheet_fields.specs.Meaning.Head.{head_ok}
use Rattle.sheet_fields.specs.Model.Head.{literal_at}
use Rattle.sheet.specs.Model.Layout.{no_monitor}
use Rattle.sheet.specs.declared.layout.Sheet.{Sheet}
use Rattle.sheet.specs.declared.layout.Refusal.TheVariants.{BadHead, LongHorizon}
use Rattle.sheet.specs.declared.layout.Refusal.{Refusal}

-- the sheet of a head, with no monitors yet
unfoldable pub head_sheet : List ℕ → ℕ → Sheet
head_sheet s start =
    record {
      mode = mode_at s start;
      site = site_at s start;
      inputs = guard_lines (mode_at s start) (site_at s start) (outputs_at s start);
      outputs = outputs_at s start;
      horizon = horizon_at s start;
      matching = matching_at s start;
      literals =
          literal_at s start (outputs_at s start) 0
          ∷ literal_at s start (outputs_at s start) 1
          ∷ literal_at s start (outputs_at s start) 2
          ∷ [];
      monitors = replicate max_monitors no_monitor;
      count = 0;
    }

-- a head is refused 3 before 6
unfoldable pub read_head : List ℕ → ℕ → ℕ → Result Sheet Refusal
read_head s start size =
    cond (head_ok s start size)
    (cond (horizon_ok (guard_lines (mode_at s start) (site_at s start) (outputs_at s start)) (horizon_at s start))
    (Ok (head_sheet s start)) (Err LongHorizon))
    (Err BadHead)
