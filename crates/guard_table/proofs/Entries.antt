-- Testing the entries of a row at every input that there can be is testing those that there are.
-- Assumes nothing.
use mathlib.Core.Path.{◌≡◌, sym, ◌∙◌}
use mathlib.Core.Bool.{true, false}
use mathlib.Core.List.{List}
use Prim.Native.Nat.{ℕ, ◌^◌, ◌≤◌, ◌<◌}
use native.Mathlib.Decide.{dec_lt}
use native.Mathlib.Omega.{arith}
use borrow.Author.Tests.{le-leb, lt-leb}
use lib.Pow.{pow_mono}
use Rattle.records.specs.Laws.Bounded.{all_of, all_fails, all-at, all-not}
use Rattle.records.specs.Meaning.Bounded.{all}
use Rattle.records.specs.Laws.Tests.{both_ways, by_test}
use Rattle.records.specs.Meaning.Limits.{max_inputs, max_ins}
use Rattle.guard_table.specs.Meaning.GuardTable.{output_in, next_in}
use Rattle.guard_table.specs.Meaning.Loadable.{entry_ok, entries_ok}
use Rattle.guard_table.specs.Model.Entries.{entry_passes}

module _ (t : List ℕ) (inputs outputs count place : ℕ) where
  -- there is no such input
  pub passes-beyond : (i : ℕ) → 2 ^ inputs ≤ i → entry_passes t inputs outputs count place i ≡ true
  unfolding entry_passes
  passes-beyond i h = rw (le-leb (2 ^ inputs) i h)

  -- or there is
  pub passes_inside : (i : ℕ) → i < 2 ^ inputs
      → entry_passes t inputs outputs count place i ≡ entry_ok (output_in t inputs place i) (next_in t inputs place i) outputs count
  unfolding entry_passes
  passes_inside i h = rw (lt-leb (2 ^ inputs) i h)

  -- an entry that does not pass is one of the row's
  pub entry_fails : (i : ℕ) → entry_passes t inputs outputs count place i ≡ false → entries_ok t inputs outputs count place ≡ false
  unfolding entries_ok
  entry_fails i e =
      elim (dec_lt i (2 ^ inputs)) [
        | yes h ↦ all_fails (2 ^ inputs) _ i h (sym (passes_inside i h) ∙ e)
        | no h ↦ both_ways (passes-beyond i (omega arith)) e
      ]

  -- and where all pass, all of the row's do
  pub entries_pass : inputs ≤ max_inputs → ((i : ℕ) → i < max_ins → entry_passes t inputs outputs count place i ≡ true)
      → entries_ok t inputs outputs count place ≡ true
  unfolding entries_ok
  entries_pass most f =
      all_of (2 ^ inputs) _ (λ i h. sym (passes_inside i h) ∙ f i (omega (arith, pow_mono {i = inputs} {j = max_inputs} most)))

  -- so all of them pass just where all of the row's do
  pub entries_all : inputs ≤ max_inputs → all max_ins (entry_passes t inputs outputs count place) ≡ entries_ok t inputs outputs count place
  entries_all most =
      by_test (all max_ins (entry_passes t inputs outputs count place))
      (λ e. e ∙ sym (entries_pass most (all-at max_ins _ e)))
      (λ e. let f = all-not max_ins _ e in e ∙ sym (entry_fails f.0 f.2))
