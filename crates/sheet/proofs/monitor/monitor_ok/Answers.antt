-- `sheet::monitor::monitor_ok`: a body whose numbers are in order has room for its tables. Assumes nothing.
use Rattle.std.proofs.Common.{arith, true, ◌≡◌, ◌∙◌}
use Rattle.records.specs.Laws.Tests.{both_ways, said}
use Rattle.sheet_fields.specs.Meaning.Places.{states_at, first_at}
use Rattle.sheet_fields.specs.Laws.FieldFacts.{States, states_facts}
use Rattle.sheet.proofs.monitor.monitor_ok.Goals.{Joined-role_ok, Joined-states_ok, then-role_ok, else-role_ok, then-states_ok, else-states_ok}
use Rattle.sheet.proofs.monitor.monitor_ok.Goals as goal

-- what the numbers' test tells where it was passed
known : (c : Joined-role_ok) → c.if-role_ok.value ≡ true
    → States (states_at c.args.body.now.bytes.now c.args.body.now.start) (first_at c.args.body.now.bytes.now c.args.body.now.start) c.letters_read-letters.result c.args.body.now.size
known c e =
    elim c.if-role_ok.branch [
      | then-role_ok w ↦ states_facts _ _ _ _ (said w.states_ok.ensures (said w.value-is e))
      | else-role_ok w ↦ both_ways e (w.value-is ∙ w.if-role_ok.false)
    ]

-- and it was, where the accept bytes were in order
passed : (c : Joined-states_ok) → c.if-states_ok.value ≡ true → c.if-role_ok.value ≡ true
passed c e =
    elim c.if-states_ok.branch [
      | then-states_ok w ↦ w.if-states_ok.true
      | else-states_ok w ↦ said w.value-is e
    ]

pub bytes_most-requires : goal.bytes_most-requires
bytes_most-requires c = let h = known (goal.at.bytes_most-requires c).Joined-role_ok c.if-states_ok.true in omega arith

pub overflow_sub-states : goal.overflow_sub-states
overflow_sub-states c =
    let j = (goal.at.overflow_sub-states c).Joined-states_ok in
    let h = known (goal.at.overflow_sub-states c).Joined-role_ok (passed j c.if-bytes_most.true) in
    omega arith

pub bytes_most-requires-then-bytes_most : goal.bytes_most-requires-then-bytes_most
bytes_most-requires-then-bytes_most c =
    let j = (goal.at.bytes_most-requires-then-bytes_most c).Joined-states_ok in
    let h = known (goal.at.bytes_most-requires-then-bytes_most c).Joined-role_ok (passed j c.if-bytes_most.true) in
    omega arith
