-- Calls on bytes are calls on the board that these stand for: they answer the same, and leave bytes that stand for the board handed back.
-- So the bytes keep the run book that the board keeps.
-- Assumes nothing.
use Rattle.std.specs.Prelude.{◌≡◌, refl, true, false, List, [], ◌∷◌, ℕ, eqb}
use Rattle.std.proofs.Common.{sym, ap, subst, ◌∙◌}
use Rattle.records.specs.Laws.Tests.{by_test}
use Rattle.game.specs.Meaning.History.{Step}
use Rattle.game.specs.Meaning.Book.{Call, load, step, rewind, unload, Answer, Entry}
use Rattle.game.specs.Meaning.Machine.{Held, replies, Shown, Agrees}
use Rattle.board.specs.Meaning.Board.{Changing, live, change_number}
use Rattle.board.specs.Meaning.Load.{Loading, load_number}
use Rattle.board.specs.Meaning.BoardStep.{Stepping, step_number, board_moved}
use Rattle.board.specs.Meaning.Calls.{board_after, says}
use Rattle.board.specs.Laws.Calls.{refused, taken}
use Rattle.board.specs.Laws.Calls as laws
use Rattle.board.specs.declared.Board.{Board}
use Rattle.board_bytes.specs.Meaning.BoardBytes.{board_in}
use Rattle.board_bytes.specs.Meaning.ByteCalls.{bytes_after, bytes_say, bytes_on}
use Rattle.board_bytes.specs.Laws.BoardBytes.{board_back}

-- ---- a refused call hands back the same board

-- the call on b is not refused, or hands back b
abbrev Refused : Board → ℕ → Board → Type 0
Refused b number after = eqb number 0 ≡ false → after ≡ b

same_loaded : {b : Board} {x y : Loading} → x ≡ y → Refused b (load_number y.answer) y.board
    → Refused b (load_number x.answer) x.board
same_loaded {b} e r = subst (λ (z : Loading). Refused b (load_number z.answer) z.board) (sym e) r

same_stepped : {b : Board} {x y : Stepping} → x ≡ y → Refused b (step_number y.answer) y.board
    → Refused b (step_number x.answer) x.board
same_stepped {b} e r = subst (λ (z : Stepping). Refused b (step_number z.answer) z.board) (sym e) r

same_changed : {b : Board} {x y : Changing} → x ≡ y → Refused b (change_number y.answer) y.board
    → Refused b (change_number x.answer) x.board
same_changed {b} e r = subst (λ (z : Changing). Refused b (change_number z.answer) z.board) (sym e) r

moved_taken : (b : Board) (i o n : ℕ) → Refused b (step_number (board_moved b i o n).answer) (board_moved b i o n).board
unfolding board_moved
moved_taken b i o n h = let z : ◌≡◌ true false = h in cc

refused-same : (b : Board) (c : Call (List ℕ)) → Refused b (says b c).number (board_after b c)
refused-same b (load t) =
    by_test (live b) (λ e. same_loaded (laws.load_occupied b e t) (λ h. refl))
    (λ e. by_test _ (λ l. same_loaded (laws.load_empty b e t l) (λ h. cc)) (λ l. same_loaded (laws.load_bad b e t l) (λ h. refl)))
refused-same b (step t i) =
    by_test (live b)
    (λ e. elim (laws.step_case b e t i) [
      | refused a n q ↦ same_stepped q (λ h. refl)
      | taken s f q ↦ same_stepped q (moved_taken b i _ _)
    ])
    (λ e. same_stepped (laws.step_empty b e t i) (λ h. refl))
refused-same b rewind =
    by_test (live b) (λ e. same_changed (laws.rewind_live b e) (λ h. cc)) (λ e. same_changed (laws.rewind_empty b e) (λ h. refl))
refused-same b unload =
    by_test (live b) (λ e. same_changed (laws.unload_live b e) (λ h. cc)) (λ e. same_changed (laws.unload_empty b e) (λ h. refl))

-- ---- the bytes stand for the board

-- after a call, for the one that the call on the board hands back
pub bytes_board : (bytes : List ℕ) (c : Call (List ℕ)) → board_in (bytes_on bytes c) ≡ board_after (board_in bytes) c
unfolding bytes_after
bytes_board bytes c =
    by_test (eqb (bytes_say bytes c).number 0) (λ e. rw e (board_back _)) (λ e. rw e (sym (refused-same (board_in bytes) c e)))

replies-bytes : (bytes : List ℕ) (cs : List (Call (List ℕ)))
    → replies (List ℕ) (List ℕ) bytes_on bytes_say bytes cs ≡ replies (List ℕ) Board board_after says (board_in bytes) cs
replies-bytes bytes [] = refl
replies-bytes bytes (c ∷ cs) =
    ap (λ (rest : List Answer). bytes_say bytes c ∷ rest)
    (replies-bytes (bytes_on bytes c) cs ∙ ap (λ (b : Board). replies (List ℕ) Board board_after says b cs) (bytes_board bytes c))

module _ (Shows : Board → List Step → Type 0) where
  abbrev BoardShown : Board → List (Call (List ℕ)) → List Entry → Type 0
  BoardShown = Shown (List ℕ) Board board_after says Shows

  shown-bytes : (bytes : List ℕ) (cs : List (Call (List ℕ))) (es : List Entry) → BoardShown (board_in bytes) cs es
      → Shown (List ℕ) (List ℕ) bytes_on bytes_say (λ x. Shows (board_in x)) bytes cs es
  shown-bytes bytes [] es s = tt
  shown-bytes bytes (c ∷ cs) [] s = s
  shown-bytes bytes (c ∷ cs) (e ∷ es) s =
      let back = sym (bytes_board bytes c) in (
        subst (λ (b : Board). Held (Shows b) e.book.run) back s.0,
        shown-bytes (bytes_on bytes c) cs es (subst (λ (b : Board). BoardShown b cs es) back s.1),
      )

  -- a list of calls in which the board agrees with the book: its bytes do too
  pub bytes_agree : {S : Type 0} {I limit : ℕ} {next : S → ℕ → ℕ → S} {start : S} {Moves : S → ℕ → ℕ → Type 0} (bytes : List ℕ)
      (cs : List (Call (List ℕ))) → Agrees (List ℕ) Board board_after says S I limit next start Moves Shows (board_in bytes) cs
      → Agrees (List ℕ) (List ℕ) bytes_on bytes_say S I limit next start Moves (λ x. Shows (board_in x)) bytes cs
  bytes_agree bytes cs a =
      record {
        entries = a.entries;
        kept = a.kept;
        only = a.only;
        answers = replies-bytes bytes cs ∙ a.answers;
        shows = shown-bytes bytes cs a.entries a.shows;
      }
