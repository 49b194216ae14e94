-- `rounds::Sifted::mask_of`: the bits of the outputs before o are set. Assumes nothing.
use Rattle.std.proofs.Common.{Bool, arith, sym, ◌∙◌, ◌≡◌}
use Rattle.records.specs.Laws.Tests.{said}
use Rattle.rounds.specs.Model.Tables.{over}
use Rattle.rounds.specs.Laws.Masks.{allows, mask_bits, mask_lost}
use Rattle.rounds.specs.Laws.CellPlaces.{leads_at}
use Rattle.rounds.proofs.Masking.{begin, fits, bit_on, bit_off, end}
use Rattle.rounds.proofs.Sifted.mask_of.Goals.{After-leads_to_kept, then-leads_to_kept, else-leads_to_kept}
use Rattle.rounds.proofs.Sifted.mask_of.Goals as goal

-- the test of output o, as the calls answered it
allowed : (c : After-leads_to_kept) {b : Bool} → c.leads_to_kept.result ≡ b
    → over c.args.self.now allows c.args.k c.args.i c.loop-o.o ≡ b
unfolding allows
allowed c e =
    rw (said c.is_kept.ensures c.if-not-is_kept.false, ← c.cell_at.ensures) (said c.leads_to_kept.ensures e)

pub returns-then-not-is_kept : goal.returns-then-not-is_kept
returns-then-not-is_kept c = sym (mask_lost _ _ _ _ _ _ (said c.is_kept.ensures c.if-not-is_kept.true))

pub loop-o-init : goal.loop-o-init
loop-o-init c = begin _ _

pub leads_to_kept-requires : goal.leads_to_kept-requires
leads_to_kept-requires c =
    leads_at c.args.self.now.table.steps (record { room = c.args.self.now.room; state = c.requires.state }) c.requires.input c.loop-o-test.true c.cell_at.ensures

pub overflow_add-mask : goal.overflow_add-mask
overflow_add-mask c = omega (arith, fits c.loop-o.invariant (omega arith))

pub loop-o-preserved : goal.loop-o-preserved
loop-o-preserved c =
    let inv = c.loop-o.invariant in
    let at = (goal.at.loop-o-preserved c).After-leads_to_kept in
    elim c.if-leads_to_kept.branch [
      | then-leads_to_kept w ↦ bit_on inv (omega arith) (omega arith) (allowed at w.if-leads_to_kept.true) w.mask-is
      | else-leads_to_kept w ↦ bit_off inv (omega arith) (allowed at w.if-leads_to_kept.false) w.mask-is
    ]

pub returns : goal.returns
returns c = end c.loop-o.invariant (omega arith) ∙ sym (mask_bits _ _ _ _ _ _)
