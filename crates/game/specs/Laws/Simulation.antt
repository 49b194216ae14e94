-- A board that runs a table agrees with the run book, if the table's places stand for states and its entries for their moves.
-- Assumes nothing.
use Rattle.std.specs.Prelude.{◌≡◌, refl, Bool, true, false, List, [], ◌∷◌, map, ℕ, ◌<◌, ltb, length, get_or}
use Rattle.std.proofs.Common.{sym, ap, ◌∙◌, subst, add-one, arith, ltb-true, ltb-false}
use Rattle.std.proofs.Math.Option.{Option, none, some}
use Rattle.game.specs.Meaning.History.{Step, reached}
use Rattle.game.specs.Meaning.Book.{Call, load, step, rewind, unload, Answer, refuse, Book, book_of, empty_book, Entry, deviations, Steps, Writes, Keeps, holding, Lent}
use Rattle.game.specs.Laws.Answers.{holds, writes-holding, keeps-only}
use Rattle.game.specs.Meaning.Machine.{Held, replies, Shown, Agrees}
use Rattle.game.specs.Model.Machine.{RunsTable}

-- ---- the table

module _ (S : Type 0) (I : ℕ) (next : S → ℕ → ℕ → S) (start : S) (Moves : S → ℕ → ℕ → Type 0) where
  -- the N places of a table stand for the states L, the first for the start: at a good state each entry is a move of it, and
  -- leads to the place of the state after that move
  pub record Represents (Good : S → Type 0) (L : List S) (N : ℕ) (out nxt : ℕ → ℕ → ℕ) : Type 0 where
    pub size : N ≡ length L
    pub some : 0 < length L
    pub first : get_or L 0 start ≡ start
    pub moves : (k i : ℕ) → k < N → Good (get_or L k start) → i < I → Moves (get_or L k start) i (out k i)
    pub low : (k i : ℕ) → k < N → Good (get_or L k start) → i < I → nxt k i < N
    pub lands : (k i : ℕ) → k < N → Good (get_or L k start) → i < I → get_or L (nxt k i) start ≡ next (get_or L k start) i (out k i)

-- the slice of a call, given whether the book holds a run: what `Lent` asks of one call
abbrev Suits : {T : Type 0} → T → Bool → Call T → Type 0
Suits table false (load t) = t ≡ table
Suits table true (load t) = Unit {0}
Suits table h (step t i) = t ≡ table
Suits table h rewind = Unit {0}
Suits table h unload = Unit {0}

lent_first : {T : Type 0} (table : T) (h : Bool) (c : Call T) (cs : List (Call T)) → Lent table h (c ∷ cs)
    → Suits table h c × Lent table (holding h c) cs
lent_first table false (load t) cs l = (l.0, l.1)
lent_first table true (load t) cs l = (tt, l)
lent_first table h (step t i) cs l = (l.0, l.1)
lent_first table h rewind cs l = (tt, l)
lent_first table h unload cs l = (tt, l)

-- ---- the board beside the book

module _
    (T B : Type 0) (after : B → Call T → B) (says : B → Call T → Answer)
    (table : T) (N I limit mode site : ℕ) (out nxt : ℕ → ℕ → ℕ) (Empty : B → Type 0) (Stands : B → ℕ → ℕ → ℕ → Type 0)
    (runs : RunsTable T B after says table N I limit mode site out nxt Empty Stands)
    (S : Type 0) (next : S → ℕ → ℕ → S) (start : S) (Moves : S → ℕ → ℕ → Type 0) (Good : S → Type 0)
    (Good-start : Good start)
    (good-next : (s : S) (i o : ℕ) → Good s → i < I → Moves s i o → Good (next s i o))
    (settled : (s : S) (i o q : ℕ) → Good s → i < I → Moves s i o → Moves s i q → o ≡ q)
    (L : List S) (table_is : Represents S I next start Moves Good L N out nxt)
    (Shows : B → List Step → Type 0) (shows : (b : B) (k : ℕ) (h : List Step) → Stands b k (length h) (deviations mode site h) → Shows b h)
  where
    -- the board stands at the place of the state that the run h has led to, with its figures
    record Beside (b : B) (h : List Step) : Type 0 where
      place : ℕ
      low : place < N
      at : get_or L place start ≡ reached S next start h
      good : Good (reached S next start h)
      stands : Stands b place (length h) (deviations mode site h)

    abbrev InStep : B → Option (List Step) → Type 0
    InStep b none = Empty b
    InStep b (some h) = Beside b h

    -- the board takes the call as the book does
    abbrev Together : B → Book → Call T → Type 0
    Together b p c =
        (q : Book) × Writes T S I limit next start Moves p c (says b c) q × InStep (after b c) q.run

    fresh : (b : B) → Stands b 0 0 0 → Beside b []
    fresh b u =
        record { place = 0; low = omega (arith, table_is.size, table_is.some); at = table_is.first; good = Good-start; stands = u }

    -- a call that leaves board and book as they are
    unchanged : (b : B) (p : Book) (c : Call T) (a : Answer)
        → Writes T S I limit next start Moves p c a p → (says b c ≡ a) × (after b c ≡ b) → InStep b p.run → Together b p c
    unchanged b p c a w e r = (
      p,
      subst (λ (x : Answer). Writes T S I limit next start Moves p c x p) (sym e.0) w,
      subst (λ (x : B). InStep x p.run) (sym e.1) r,
    )

    -- a call of a board that holds no run
    empty_call : (b : B) (c : Call T) → Empty b → Suits table false c → Together b empty_book c
    empty_call b (load t) e s =
        let x = runs.loads b e in
        subst (λ (u : T). Together b empty_book (load u)) (sym s) (book_of [], (x.0, refl), fresh (after b (load table)) x.1)
    empty_call b (step t i) e s =
        unchanged b empty_book (step t i) (refuse 20) (refl, refl)
        (runs.empties b e (step t i) (λ u q. let z : ◌≡◌ {A = ℕ} 0 1 = cc in omega arith)) e
    empty_call b rewind e s =
        unchanged b empty_book rewind (refuse 20) (refl, refl)
        (runs.empties b e rewind (λ u q. let z : ◌≡◌ {A = ℕ} 0 1 = cc in omega arith)) e
    empty_call b unload e s =
        unchanged b empty_book unload (refuse 20) (refl, refl)
        (runs.empties b e unload (λ u q. let z : ◌≡◌ {A = ℕ} 0 1 = cc in omega arith)) e

    -- the board after a step stands beside the run with that step
    stepped : (b : B) (h : List Step) (i : ℕ) (r : Beside b h) → length h < limit → i < I
        → Moves (reached S next start h) i (out r.place i)
        × Beside (after b (step table i)) (record { input = i; output = out r.place i } ∷ h)
    stepped b h i r room small =
        let k : ℕ = r.place in
        let here : Good (get_or L k start) = subst Good (sym r.at) r.good in
        let move : Moves (reached S next start h) i (out k i) =
        subst (λ (s : S). Moves s i (out k i)) r.at (table_is.moves k i r.low here small) in (
          move,
          record {
            place = nxt k i;
            low = table_is.low k i r.low here small;
            at = table_is.lands k i r.low here small ∙ ap (λ (s : S). next s i (out k i)) r.at;
            good = good-next _ i (out k i) r.good small move;
            stands = rw add-one at (runs.steps b k (length h) (deviations mode site h) r.stands i r.low room small).1;
          },
        )

    -- a step of a board that holds a run: has it room for an input, and is the input one?
    step_call : (room letter : Bool) (b : B) (h : List Step) (i : ℕ) → ltb (length h) limit ≡ room → ltb i I ≡ letter → Beside b h
        → (q : Book) × Steps T S I limit next start Moves room letter (book_of h) h i (says b (step table i)) q
        × InStep (after b (step table i)) q.run
    step_call false letter b h i u v r =
        let x = runs.spent b r.place (length h) _ r.stands i (ltb-false _ _ u) in
        (book_of h, (x.0, refl), subst (λ (y : B). Beside y h) (sym x.1) r)
    step_call true false b h i u v r =
        let x = runs.stranger b r.place (length h) _ r.stands i (ltb-true _ _ u) (ltb-false _ _ v) in
        (book_of h, (x.0, refl), subst (λ (y : B). Beside y h) (sym x.1) r)
    step_call true true b h i u v r =
        let k : ℕ = r.place in
        let x = stepped b h i r (ltb-true _ _ u) (ltb-true _ _ v) in (
          book_of (record { input = i; output = out k i } ∷ h),
          (
            out k i,
            x.0,
            (runs.steps b k (length h) _ r.stands i r.low (ltb-true _ _ u) (ltb-true _ _ v)).0,
            refl,
          ),
          x.1,
        )

    -- a call of a board that holds one
    held_call : (b : B) (h : List Step) (c : Call T) → Beside b h → Suits table true c → Together b (book_of h) c
    held_call b h (load t) r s =
        unchanged b (book_of h) (load t) (refuse 21) (refl, refl) (runs.occupied b _ _ _ r.stands t) r
    held_call b h (step t i) r s =
        subst (λ (u : T). Together b (book_of h) (step u i)) (sym s) (step_call _ _ b h i refl refl r)
    held_call b h rewind r s =
        let x = runs.rewinds b _ _ _ r.stands in (book_of [], (x.0, refl), fresh (after b rewind) x.1)
    held_call b h unload r s = let x = runs.unloads b _ _ _ r.stands in (empty_book, (x.0, refl), x.1)

    together : (b : B) (r : Option (List Step)) (c : Call T) → InStep b r → Suits table (holds r) c → Together b (record { run = r }) c
    together b none c r s = empty_call b c r s
    together b (some h) c r s = held_call b h c r s

    shown : (b : B) (p : Option (List Step)) → InStep b p → Held (Shows b) p
    shown b none r = tt
    shown b (some h) r = shows b r.place h r.stands

    -- a list of calls: how the book is kept, and what the board says and shows
    record Kept (b : B) (p : Book) (cs : List (Call T)) : Type 0 where
      entries : List Entry
      kept : Keeps T S I limit next start Moves p cs entries
      answers : replies T B after says b cs ≡ map (λ (e : Entry). e.answer) entries
      shows_runs : Shown T B after says Shows b cs entries

    keep : (b : B) (p : Book) (cs : List (Call T)) → InStep b p.run → Lent table (holds p.run) cs → Kept b p cs
    keep b p [] r l = record { entries = []; kept = tt; answers = refl; shows_runs = tt }
    keep b p (c ∷ cs) r l =
        let m = lent_first table (holds p.run) c cs l in
        let x : Together b p c = together b p.run c r m.0 in
        let lent : Lent table (holds x.0.run) cs =
        subst (λ (h : Bool). Lent table h cs) (sym (writes-holding T S I limit next start Moves p.run c _ x.0 x.1)) m.1 in
        let rest : Kept (after b c) x.0 cs = keep (after b c) x.0 cs x.2 lent in
        record {
          entries = record { answer = says b c; book = x.0 } ∷ rest.entries;
          kept = (x.1, rest.kept);
          answers = ap {B = List Answer} (λ (l : List Answer). says b c ∷ l) rest.answers;
          shows_runs = (shown (after b c) x.0.run x.2, rest.shows_runs);
        }

    -- from any board that counts as empty, over any calls that are lent the table where it is read
    pub agrees : (b : B) (cs : List (Call T)) → Empty b → Lent table false cs
        → Agrees T B after says S I limit next start Moves Shows b cs
    agrees b cs e l =
        let k : Kept b empty_book cs = keep b empty_book cs e l in
        record {
          entries = k.entries;
          kept = k.kept;
          only = λ es u. keeps-only T S I limit next start Moves Good Good-start good-next settled empty_book cs es k.entries tt u k.kept;
          answers = k.answers;
          shows = k.shows_runs;
        }
