-- `notebook::counters::put_sheet`: the bytes before k are stored. Assumes nothing.
use Rattle.std.proofs.Common.{arith, subst, sym, ℕ, ◌+◌}
use native.Mathlib.Nat.{zero-add}
use lib.ListN.{set}
use Rattle.records.specs.Laws.Stores.{Elements, same, none, more, all}
use Rattle.notebook.specs.Model.Counters.{sheet_byte, sheet_bytes}
use Rattle.notebook.proofs.Encoding.{sheet_encoded, length_encoded}
use Rattle.notebook.proofs.counters.put_sheet.Goals as goal

pub loop-k-init : goal.loop-k-init
loop-k-init c = none

pub bounds-sheet-k : goal.bounds-sheet-k
bounds-sheet-k c = omega (arith, same c.loop-k.invariant)

pub loop-k-preserved : goal.loop-k-preserved
loop-k-preserved c =
    subst (λ (j : ℕ). Elements c.args.sheet.now 0 (sheet_byte c.args.pair.n c.args.pair.m)
    (c.loop-k.k + 1) (set c.loop-k.sheet j c.sheet_byte.result))
    (zero-add c.loop-k.k) (more c.loop-k.invariant c.sheet_byte.ensures)

pub shape_of-sheet : goal.shape_of-sheet
shape_of-sheet c = same c.loop-k.invariant

pub returns : goal.returns
unfolding sheet_bytes
returns c =
    let few = c.args.pair.few in (
      rw (← sheet_encoded c.args.pair.n c.args.pair.m few.0 few.1) (all c.loop-k.invariant (omega (arith, c.loop-k.auto.k-end))),
      sym (length_encoded c.args.pair.n c.args.pair.m few.0 few.1),
    )
