-- What is reported of a guard is faithful on boards that are bytes, and of a play its length and states.
-- Assumes nothing.
use mathlib.Core.Path.{◌≡◌, refl, sym, ap, subst, ◌∙◌}
use mathlib.Core.List.{List, [], ◌∷◌}
use Prim.Native.Nat.{ℕ}
use lib.ListN.{get_or, take}
use Rattle.std.specs.Prelude.{Result, Ok, Err}
use Rattle.solve.specs.declared.made.Made.{Made}
use Rattle.forced.specs.Meaning.Answer.{play_length, play_states}
use Rattle.forced.specs.declared.answer.Ground.{Ground}
use Rattle.guard.specs.Meaning.Faithful.{Faithful}
use Rattle.guard.specs.Promises.GuardMaker.{MakesGuard}
use Rattle.board_bytes.specs.Promises.ByteCalls.{figures_of, Reports}
use Rattle.hundlezoqa_c.specs.Laws.FaithfulBytes.{faithful_bytes}
use Rattle.hundlezoqa_c.specs.Promises.Library.{ReportsGuard}

pub reported_guard : (s before lent after : List ℕ) {r : ℕ} {reported : List ℕ}
    → Reports (λ made. MakesGuard s before lent made after) r reported → ReportsGuard s before lent after r reported
reported_guard s before lent after {r} {reported} p =
    record {
      reports = p;
      faithful = λ z d a. faithful_bytes d d.horizon (take (get_or reported 0 0) after)
          (subst (λ (n : ℕ). Faithful d d.horizon (take n after)) (sym (ap (λ (l : List ℕ). get_or l 0 0) p.figures))
          (p.promised.faithful (sym p.number ∙ z) d a));
    }

-- a play is reported as a table is
pub play_figures : (r : Result Made Ground) → figures_of r ≡ play_length r ∷ play_states r ∷ []
play_figures (Ok made) = refl
play_figures (Err cause) = refl
