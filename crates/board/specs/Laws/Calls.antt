-- What the calls on a board do, as the layers above use it.
-- Assumes nothing.
use Rattle.std.specs.Prelude.{◌≡◌, Bool, false, cond, List, ℕ, ◌+◌, ◌*◌, ◌^◌, ◌≤◌, ◌<◌, ltb, leb, eqb, length, Ok, Err}
use Rattle.std.proofs.Math.Path.{refl}
use Rattle.std.proofs.Common.{ap, ◌∙◌, add_comm, mul_comm, arith}
use Rattle.std.proofs.Math.Bool.{true}
use Rattle.std.proofs.Math.Pow.{high}
use borrow.Author.Tests.{leb-false, ltb-true, eqb-true, lt-ltb, le-ltb, lt-leb, le-leb, eq-eqb}
use Rattle.records.specs.Laws.Tests.{and_left, and_right, and_both, by_test}
use Rattle.records.specs.Meaning.Limits.{max_steps}
use Rattle.records.specs.Laws.Limits.{lines_facts}
use Rattle.guard_table.specs.Meaning.GuardTable.{length_in, head_mode, head_inputs, head_outputs, head_count, first_kind, shows_kind, kind_of, output_in, next_in}
use Rattle.game.specs.Meaning.Proposal.{proposal, deviates}
use Rattle.game.specs.Meaning.Book.{Call, load, step, rewind, unload}
use Rattle.board.specs.Meaning.Board.{live, empty_board, run_at, Changing, rewind_on, unload_on}
use Rattle.guard_table.specs.Meaning.Loadable.{entry_ok, loadable}
use Rattle.guard_table.specs.Model.Inside.{Sized}
use Rattle.guard_table.specs.Laws.LoadableFacts.{loadable-head, loadable_entry}
use Rattle.board.specs.Meaning.Load.{board_of, Loading, load_on}
use Rattle.board.specs.Meaning.BoardStep.{Step, length_fits, entry_fits, board_moved, looked_up, step_on, step_number, step_refusal}
use Rattle.board.specs.Meaning.Calls.{board_after}
use Rattle.board.specs.Laws.LiveFacts.{live_facts, facts_live}
use Rattle.board.specs.declared.Board.{Board}
use Rattle.board.specs.declared.answers.LoadRefusal.{LoadRefusal}
use Rattle.board.specs.declared.answers.StepRefusal.{StepRefusal}
use Rattle.board.specs.declared.answers.StepRefusal.TheVariants.{Spent, BadInput, BadTable}
use Rattle.board.specs.declared.answers.ChangeRefusal.{ChangeRefusal}

-- ---- a board that counts as empty

-- the constructor's board is one
pub empty_board_lem : live empty_board ≡ false
unfolding live empty_board
empty_board_lem = refl

module _ (b : Board) (e : live b ≡ false) where
  -- it takes every loadable table
  pub load_empty : (t : List ℕ) → loadable t ≡ true → load_on b t ≡ record { board = board_of t; answer = Ok tt }
  unfolding load_on
  load_empty t l = simp (e, l)

  -- and no other
  pub load_bad : (t : List ℕ) → loadable t ≡ false → load_on b t ≡ record { board = b; answer = Err LoadRefusal.BadTable }
  unfolding load_on
  load_bad t l = simp (e, l)

  -- every other call is refused 20, with the same board
  pub step_empty : (t : List ℕ) (i : ℕ) → step_on b t i ≡ record { board = b; answer = Err StepRefusal.Empty }
  unfolding step_on
  step_empty t i = simp e

  pub rewind_empty : rewind_on b ≡ record { board = b; answer = Err ChangeRefusal.Empty }
  unfolding rewind_on
  rewind_empty = simp e

  pub unload_empty : unload_on b ≡ record { board = b; answer = Err ChangeRefusal.Empty }
  unfolding unload_on
  unload_empty = simp e

-- ---- a loaded table

-- the board has the mode, lines and count of the table's head
pub record ShowsHead (b : Board) (t : List ℕ) : Type 0 where
  pub mode : b.mode ≡ head_mode t
  pub inputs : b.inputs ≡ head_inputs t
  pub outputs : b.outputs ≡ head_outputs t
  pub count : b.count ≡ head_count t

-- the board that a loadable table gives is live
pub loaded_live : (t : List ℕ) → loadable t ≡ true → live (board_of t) ≡ true
unfolding board_of
loaded_live t l =
    let h = loadable-head t l in
    facts_live (board_of t)
    (record {
      loaded = refl;
      lines = h.lines;
      count-least = h.count-least;
      count_most = h.count_most;
      place = h.count-least;
      steps = omega arith;
      deviations = omega arith;
      controller = λ z. refl;
    })

-- it shows the table's head, with place, steps and deviations 0
pub loaded_shows : (t : List ℕ) → ShowsHead (board_of t) t
unfolding board_of
loaded_shows t = record { mode = refl; inputs = refl; outputs = refl; count = refl }

pub loaded_start : (t : List ℕ) → board_of t ≡ run_at (board_of t) 0 0 0
unfolding board_of run_at
loaded_start t = refl

-- a run at another point shows the same head
pub run_shows : (b : Board) (t : List ℕ) (place steps deviations : ℕ) → ShowsHead b t → ShowsHead (run_at b place steps deviations) t
unfolding run_at
run_shows b t p s d h = record { mode = h.mode; inputs = h.inputs; outputs = h.outputs; count = h.count }

pub moved_shows : (b : Board) (t : List ℕ) (input output next : ℕ) → ShowsHead b t → ShowsHead (board_moved b input output next).board t
unfolding board_moved
moved_shows b t i o n h = run_shows b t _ _ _ h

-- ---- a step

-- an input is the site's letter + 2^(site's lines) × proposal
pub proposal_of : (site l p : ℕ) → l < 2 ^ site → proposal site (l + 2 ^ site * p) ≡ p
unfolding proposal
proposal_of s l p h = rw (add_comm l (2 ^ s * p), mul_comm (2 ^ s) p) (high p s h)

-- a step looks at the slice's length, at the first row's kind and at the entry, and at nothing else of the slice
pub step_reads : (b : Board) (t u : List ℕ) (i : ℕ) → length t ≡ length u → first_kind t ≡ first_kind u
    → output_in t b.inputs b.place i ≡ output_in u b.inputs b.place i
    → next_in t b.inputs b.place i ≡ next_in u b.inputs b.place i → step_on b t i ≡ step_on b u i
unfolding step_on looked_up entry_fits length_fits entry_ok shows_kind kind_of
step_reads b t u i l k o n = rw (l, k, o, n)

-- ---- a live board

-- a slice that fits it is as long as a table of its states
pub fits_sized : (b : Board) (t : List ℕ) → live b ≡ true → length_fits b t ≡ true → Sized t b.inputs b.count
unfolding length_fits
fits_sized b t e f =
    let h = live_facts b e in
    record {
      inputs_most = (lines_facts b.mode b.inputs b.outputs h.lines).inputs_most;
      count_most = h.count_most;
      fills = eqb-true (length t) (length_in (kind_of t) b.inputs b.count) (search (and_left, and_right));
    }

-- a run at a point in range is live
run_live : (b : Board) (place steps deviations : ℕ) → live b ≡ true → place < b.count → steps ≤ max_steps → deviations ≤ steps
    → (b.mode ≡ 0 → deviations ≡ 0) → live (run_at b place steps deviations) ≡ true
unfolding run_at
run_live b p s d e h k l m =
    let f = live_facts b e in
    facts_live (run_at b p s d)
    (record {
      loaded = f.loaded;
      lines = f.lines;
      count-least = f.count-least;
      count_most = f.count_most;
      place = h;
      steps = k;
      deviations = l;
      controller = m;
    })

-- what a step of a live board does: it is refused, with the same board, or it moves by the entry
pub data StepCase (b : Board) (t : List ℕ) (i : ℕ) : Type 0 where
  refused : (a : Step) → eqb (step_number a) 0 ≡ false → step_on b t i ≡ record { board = b; answer = a } → StepCase b t i
  taken : b.steps < max_steps → entry_fits b t i ≡ true → step_on b t i ≡ board_moved b i (output_in t b.inputs b.place i)
      (next_in t b.inputs b.place i) → StepCase b t i

-- outside mode 1 nothing deviates
never_deviates : (mode site input output : ℕ) → mode ≡ 0 → deviates mode site input output ≡ false
unfolding deviates
never_deviates m s i o z = rw z

flag_most : (p : Bool) → cond p 1 0 ≤ 1
flag_most true = omega arith
flag_most false = omega arith

-- an entry in range leads to a state of the table
next_inside : (b : Board) (t : List ℕ) (i : ℕ) → entry_fits b t i ≡ true → next_in t b.inputs b.place i < b.count
unfolding entry_fits entry_ok
next_inside b t i f = ltb-true (next_in t b.inputs b.place i) b.count (search (and_left, and_right))

module _ (b : Board) (e : live b ≡ true) where
  -- every load is refused 21, with the same board
  pub load_occupied : (t : List ℕ) → load_on b t ≡ record { board = b; answer = Err LoadRefusal.Occupied }
  unfolding load_on
  load_occupied t = simp e

  -- rewind sets place, steps and deviations to 0
  pub rewind_live : rewind_on b ≡ record { board = run_at b 0 0 0; answer = Ok tt }
  unfolding rewind_on
  rewind_live = simp e

  -- unload empties it
  pub unload_live : unload_on b ≡ record { board = empty_board; answer = Ok tt }
  unfolding unload_on
  unload_live = simp e

  -- a step is refused or taken
  pub step_case : (t : List ℕ) (i : ℕ) → StepCase b t i
  unfolding step_on looked_up
  step_case t i =
      by_test (leb max_steps b.steps) (λ p. refused (Err Spent) refl (simp (e, p)))
      (λ p. by_test (ltb i (2 ^ b.inputs))
      (λ q. by_test (entry_fits b t i) (λ r. taken (leb-false max_steps b.steps p) r (simp (e, p, q, r)))
      (λ r. refused (Err BadTable) refl (simp (e, p, q, r))))
      (λ q. refused (Err BadInput) refl (simp (e, p, q))))

  -- a rewind leaves it live
  pub rewound_live : live (run_at b 0 0 0) ≡ true
  rewound_live =
      let f = live_facts b e in
      run_live b 0 0 0 e (omega arith) (omega arith) (omega arith) (λ z. refl)

  -- one step on, to a state of its table, with a deviation more or not: in mode 0 there is none
  on_live : (deviating : Bool) (n : ℕ) → b.steps < max_steps → n < b.count → (b.mode ≡ 0 → deviating ≡ false)
      → live (run_at b n (b.steps + 1) (b.deviations + cond deviating 1 0)) ≡ true
  on_live p n s h c =
      let f = live_facts b e in
      run_live b n (b.steps + 1) (b.deviations + cond p 1 0) e h (omega arith) (omega (arith, flag_most p))
      (λ z. rw (c z) (omega (arith, f.controller z)))

  -- a step to a state of its table leaves it live
  pub moved-live : (i o n : ℕ) → b.steps < max_steps → n < b.count → live (board_moved b i o n).board ≡ true
  unfolding board_moved
  moved-live i o n s h = on_live _ n s h (never_deviates _ _ _ _)

  -- every step, with any slice and input, leaves it live
  pub step_live : (t : List ℕ) (i : ℕ) → live (step_on b t i).board ≡ true
  step_live t i =
      elim (step_case t i) [
        | refused a n q ↦ rw q e
        | taken s f q ↦ rw q (moved-live i (output_in t b.inputs b.place i) (next_in t b.inputs b.place i) s
            (next_inside b t i f))
      ]

  -- only unload empties it
  pub stays-live : (c : Call (List ℕ)) → (c ≡ unload → ⊥) → live (board_after b c) ≡ true
  stays-live (load t) n = ap (λ (r : Loading). live r.board) (load_occupied t) ∙ e
  stays-live (step t i) n = step_live t i
  stays-live rewind n = ap (λ (r : Changing). live r.board) rewind_live ∙ rewound_live
  stays-live unload n = absurd (n refl)

  -- a step is refused 22 after its last one, and else 12 at an input out of range, whatever the slice
  pub step_spent : (t : List ℕ) (i : ℕ) → max_steps ≤ b.steps → step_on b t i ≡ record { board = b; answer = Err Spent }
  unfolding step_on
  step_spent t i h = simp (e, le-leb _ _ h)

  pub step_stranger : (t : List ℕ) (i : ℕ) → b.steps < max_steps → 2 ^ b.inputs ≤ i
      → step_on b t i ≡ record { board = b; answer = Err BadInput }
  unfolding step_on
  step_stranger t i h k = simp (e, lt-leb _ _ h, le-ltb _ _ k)

  -- ---- that holds a loadable table
  module _ (t : List ℕ) (l : loadable t ≡ true) (s : ShowsHead b t) (i : ℕ) where
    length_fits_lem : length_fits b t ≡ true
    unfolding length_fits
    length_fits_lem = let h = loadable-head t l in and_both _ _ h.shows (rw (s.inputs, s.count) (eq-eqb _ _ h.fills))

    entry_fits_lem : i < 2 ^ b.inputs → entry_fits b t i ≡ true
    unfolding entry_fits
    entry_fits_lem h = and_both _ _ length_fits_lem (fits b.inputs b.outputs b.count s.inputs s.outputs s.count
        (live_facts b e).place h)
      where
        fits : (inputs outputs count : ℕ) → inputs ≡ head_inputs t → outputs ≡ head_outputs t → count ≡ head_count t → b.place < count
            → i < 2 ^ inputs → entry_ok (output_in t inputs b.place i) (next_in t inputs b.place i) outputs count ≡ true
        fits n o k p q r h m = rw (p, q, r) (loadable_entry t l b.place i (rw r at h) (rw p at m))

    -- a step is refused by 22 or 12 alone
    pub step_refused : step_refusal b t i ≡ cond (leb max_steps b.steps) 22 (cond (ltb i (2 ^ b.inputs)) 0 12)
    unfolding step_refusal
    step_refused =
        by_test (ltb i (2 ^ b.inputs)) (λ q. simp (e, q, entry_fits_lem (ltb-true _ _ q))) (λ q. simp (e, q))

    -- else it gives the entry's output and moves to its next state, one step on, with one deviation more iff it deviates
    pub step_taken : b.steps < max_steps → i < 2 ^ b.inputs
        → step_on b t i ≡ board_moved b i (output_in t b.inputs b.place i) (next_in t b.inputs b.place i)
    unfolding step_on looked_up
    step_taken h k = simp (e, lt-leb _ _ h, lt-ltb _ _ k, entry_fits_lem k)
