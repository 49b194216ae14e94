-- `guard_rows::table::put_row`: the header and the entries of the inputs before i are stored, and `rest` has the digits from i on.
-- Assumes nothing.
use Rattle.std.proofs.Common.{ap, arith, subst, sym, ℕ, ◌%◌, ◌-◌, ◌/◌, ◌<◌, ◌^◌, ◌∙◌, ◌≡◌, ◌≤◌}
use lib.ListN.{length, get_or}
use lib.Pow.{pow_mono}
use Rattle.records.specs.Meaning.Limits.{max_inputs, max_outs}
use Rattle.records.specs.Laws.Digits.{rest_none, rest_more, digit_rest}
use Rattle.records.specs.Laws.Stores.{no_block, same_blocks, more_blocks, all_blocks}
use Rattle.rounds.specs.Model.TableRounds.{cell_at}
use Rattle.rounds.specs.Laws.CellPlaces.{cell_in_row}
use Rattle.guard_table.specs.Meaning.RowKind.{states_most}
use Rattle.guard_table.specs.Laws.GuardTable.{length_entry, entry_ends}
use Rattle.values.specs.Model.Values.{cell_next}
use Rattle.values.specs.Model.Tables.{steps_in}
use Rattle.guard_rows.specs.Model.Entered.{output_by, next_by, numbered}
use Rattle.guard_rows.proofs.Stores.{entry_stored, row-stored}
use Rattle.guard_rows.proofs.table.put_row.Goals.{After-next_of-to, At-loop-i, In-loop-i}
use Rattle.guard_rows.proofs.table.put_row.Goals as goal

-- the output at input i is the lowest digit of what is left
output : (c : In-loop-i) → c.loop-i.rest % max_outs ≡ output_by c.args.row c.loop-i.i
output c =
    ap (λ (x : ℕ). x % max_outs) c.loop-i.invariant.0 ∙ digit_rest max_outs c.args.row c.loop-i.i

-- and the state after it has a number
next : (c : After-next_of-to) → c.next_of-to.result ≡ next_by (steps_in c.args.steps.now) c.args.row c.args.k c.loop-i.i
unfolding cell_next
next c =
    let output : c.loop-i.rest % max_outs ≡ output_by c.args.row c.loop-i.i = ap (λ (x : ℕ). x % max_outs) c.loop-i.invariant.0 ∙ digit_rest max_outs c.args.row c.loop-i.i in
    let a = c.args in
    c.next_of-to.ensures
    ∙ ap (λ (o : ℕ). get_or a.steps.now.cells.now (cell_at a.steps.now.ins a.steps.now.outs a.k c.loop-i.i o) 0) (output)

some : (c : After-next_of-to) → let numbers = c.args.numbers.now in
    (c.next_of-to.result < length numbers)
    × (1 ≤ get_or numbers c.next_of-to.result 0) × (get_or numbers c.next_of-to.result 0 ≤ states_most c.args.layout.kind)
some c = let i = c.loop-i.i in
    let h = c.loop-i-test.true in
    let numbers = c.args.numbers.now in
    subst (λ (x : ℕ). (x < length numbers) × (1 ≤ get_or numbers x 0) × (get_or numbers x 0 ≤ states_most c.args.layout.kind))
    (sym (next c)) (c.requires.entered.room i h, c.requires.entered.least i h, c.requires.entered.most i h)

-- the input is one of those that there are
low : (c : In-loop-i) → c.loop-i.i < 2 ^ c.args.layout.inputs
low c = omega (arith, c.loop-i-test.true, c.requires.inside.0)

same : (c : At-loop-i) → length c.loop-i.res ≡ length c.args.res.now
same c = same_blocks c.loop-i.invariant.1 ∙ c.put_row_header.auto.res

pub loop-i-init : goal.loop-i-init
loop-i-init c = (rest_none max_outs _, no_block)

pub next_of-to-requires : goal.next_of-to-requires
next_of-to-requires c =
    let h = c.loop-i-test.true in
    let o = c.requires.entered.output c.loop-i.i h in
    rw (output c) (
    record {
      in_row = record { input = h; output = o; fits = omega (arith, c.requires.entered.steps) };
      cell_in_table = omega (arith, c.requires.entered.steps, cell_in_row c.args.k h o);
    }
    )

pub offset_bounds-numbers-to : goal.offset_bounds-numbers-to
offset_bounds-numbers-to c = omega (arith, (some c).0)

pub bounds-numbers-to : goal.bounds-numbers-to
bounds-numbers-to c = omega (arith, (some (goal.at.bounds-numbers-to c).After-next_of-to).0)

pub overflow_sub-next : goal.overflow_sub-next
overflow_sub-next c = omega (arith, (some (goal.at.overflow_sub-next c).After-next_of-to).1)

pub entry_at-at-requires : goal.entry_at-at-requires
entry_at-at-requires c =
    let row = c.requires.inside.1 in
    let few : 2 ^ c.args.layout.inputs ≤ 16 = pow_mono {j = max_inputs} row.inputs_most in
    (row.place_most, omega (arith, low (goal.at.entry_at-at-requires c).In-loop-i))

pub put_entry-requires : goal.put_entry-requires
put_entry-requires c =
    let ends = entry_ends c.args.layout.kind c.requires.inside.1 (low (goal.at.put_entry-requires c).In-loop-i) in (
      omega (arith, ends, c.entry_at-at.ensures, same (goal.at.put_entry-requires c).At-loop-i),
      omega (arith, (some (goal.at.put_entry-requires c).After-next_of-to).1, (some (goal.at.put_entry-requires c).After-next_of-to).2),
    )

pub loop-i-preserved : goal.loop-i-preserved
unfolding numbered
loop-i-preserved c =
    let l = c.loop-i in
    let a = c.args in (
      ap (λ (x : ℕ). x / max_outs) l.invariant.0 ∙ rest_more max_outs a.row l.i,
      more_blocks l.invariant.1 (λ q. length_entry a.layout.kind (output_by a.row q) (numbered (steps_in c.args.steps.now) a.row a.numbers.now a.k q))
          (entry_stored l.res a.layout.kind a.layout.inputs a.place l.i c.entry_at-at.ensures (output (goal.at.loop-i-preserved c).In-loop-i)
          (ap (λ (x : ℕ). get_or a.numbers.now x 0 - 1) (next (goal.at.loop-i-preserved c).After-next_of-to)) c.put_entry.ensures),
    )

pub returns : goal.returns
returns c =
    let a = c.args in
    row-stored a.res.now a.layout.kind a.layout.inputs a.place (output_by a.row) (numbered (steps_in c.args.steps.now) a.row a.numbers.now a.k)
    c.requires.inside.0 c.put_row_header.ensures (all_blocks c.loop-i.invariant.1 (omega (arith, c.loop-i-test.false)))
