-- What the test of a board tells, as facts about its numbers.
-- Assumes nothing.
use Rattle.std.specs.Prelude.{◌≡◌, true, false, ◌||◌, ℕ, ◌≤◌, ◌<◌, eqb}
use Rattle.std.proofs.Common.{arith, leb-true, ltb-true, eqb-true, lt-ltb, le-leb, eq-eqb, ne_eqb}
use Rattle.std.proofs.lemmas.Bool.{eqb-false}
use Rattle.records.specs.Laws.Tests.{and_left, and_right, or-not, or_left, or_right, by_test}
use Rattle.records.specs.Meaning.Limits.{max_states, max_steps, lines_ok}
use Rattle.records.specs.Laws.Limits.{lines_facts}
use Rattle.board.specs.Meaning.Board.{counts_ok, live}
use Rattle.board.specs.declared.Board.{Board}

pub record Live (b : Board) : Type 0 where
  pub loaded : b.loaded ≡ true
  pub lines : lines_ok b.mode b.inputs b.outputs ≡ true
  pub count-least : 1 ≤ b.count
  pub count_most : b.count ≤ max_states
  pub place : b.place < b.count
  pub steps : b.steps ≤ max_steps
  pub deviations : b.deviations ≤ b.steps
  pub controller : b.mode ≡ 0 → b.deviations ≡ 0

pub live_facts : (b : Board) → live b ≡ true → Live b
unfolding live counts_ok
live_facts b e =
    record {
      loaded = search and_left;
      lines = search (and_left, and_right);
      count-least = leb-true 1 b.count (search (and_left, and_right));
      count_most = leb-true b.count max_states (search (and_left, and_right) depth 9);
      place = ltb-true b.place b.count (search (and_left, and_right) depth 9);
      steps = leb-true b.steps max_steps (search (and_left, and_right) depth 9);
      deviations = leb-true b.deviations b.steps (search (and_left, and_right) depth 9);
      controller = λ z. eqb-true b.deviations 0
          (or-not (eqb b.mode 1) (eqb b.deviations 0) (search (and_left, and_right) depth 9) (ne_eqb b.mode 1 (λ q. omega arith)));
    }

pub facts_live : (b : Board) → Live b → live b ≡ true
unfolding live counts_ok
facts_live b h =
    let l = lines_facts b.mode b.inputs b.outputs h.lines in
    let m : (eqb b.mode 1 || eqb b.deviations 0) ≡ true =
    by_test (eqb b.mode 1) (λ q. or_left (eqb b.mode 1) (eqb b.deviations 0) q)
    (λ q. or_right (eqb b.mode 1) (eqb b.deviations 0)
    (eq-eqb b.deviations 0 (h.controller (no_shield b.mode l.mode_is q)))) in
    simp (
      h.loaded,
      h.lines,
      le-leb 1 b.count h.count-least,
      le-leb b.count max_states h.count_most,
      lt-ltb b.place b.count h.place,
      le-leb b.steps max_steps h.steps,
      le-leb b.deviations b.steps h.deviations,
      m,
    )
  where
    no_shield : (mode : ℕ) → mode ≤ 1 → eqb mode 1 ≡ false → mode ≡ 0
    no_shield m h q = let n : m ≡ 1 → ⊥ = eqb-false m 1 q in omega (arith, n)
