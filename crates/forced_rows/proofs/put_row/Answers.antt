-- `forced_rows::put_row`: the two bytes of the round, then the input, then the monitors. Assumes nothing.
use Rattle.std.proofs.Common.{List, ap, ap₂, arith, ℕ, ◌+◌, ◌∙◌, ◌≡◌}
use lib.ListN.{set}
use lib.Seq.{sets}
use Rattle.records.specs.Meaning.Lists.{tab}
use Rattle.records.specs.Meaning.Numbers.{u16_bytes}
use Rattle.records.specs.Laws.Lists.{sets_between}
use Rattle.rounds.specs.Model.Tables.{over}
use Rattle.forced_rows.specs.Meaning.ForcedBytes.{forced_bytes}
use Rattle.forced_rows.specs.Model.ForcedRows.{breaker_at, forced_row}
use Rattle.forced_rows.proofs.put_row.Goals as goal

-- a number, a byte after it, and what that byte says of each output
row-stored : (before : List ℕ) (at outs steps input : ℕ) (f : ℕ → ℕ → ℕ) {now next : List ℕ} {x : ℕ}
    → now ≡ sets before at (u16_bytes steps) → x ≡ input → next ≡ sets (set now (at + 2) x) (at + 3) (tab outs (f x))
    → next ≡ sets before at (forced_bytes outs steps input (f input))
unfolding forced_bytes
row-stored before at outs steps input f {now} {next} {x} e is wrote =
    let past : at + 3 ≡ at + 2 + 1 = omega arith in
    wrote
    ∙ ap (λ (j : ℕ). sets (set now (at + 2) x) j (tab outs (f x))) past
    ∙ ap₂ (λ (l : List ℕ) (y : ℕ). sets (set l (at + 2) y) (at + 2 + 1) (tab outs (f y))) e is
    ∙ sets_between before at (u16_bytes steps) input (tab outs (f input))

pub returns : goal.returns
unfolding forced_row
returns c =
    row-stored _ _ _ _ _ (over c.args.sifted.now breaker_at c.args.k) c.put_u16.ensures c.forcing_input-input.ensures
    c.put_breakers.ensures
