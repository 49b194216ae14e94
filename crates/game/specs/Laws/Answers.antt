-- Laws of the run book: the calls alone say when it holds a run, and where each input has one move it can be kept in exactly one
-- way.
-- Assumes nothing.
use Rattle.std.specs.Prelude.{◌≡◌, refl, Bool, true, false, List, [], ◌∷◌, map, ℕ, ◌<◌, ltb, length}
use Rattle.std.proofs.Common.{sym, ap, ap₂, ◌∙◌, subst, ltb-true}
use Rattle.std.proofs.Math.Option.{Option, none, some}
use Rattle.game.specs.Meaning.History.{Step, reached}
use Rattle.game.specs.Meaning.Book.{Call, load, step, rewind, unload, Answer, refuse, give, Book, book_of, empty_book, Entry, Steps, Writes, Keeps, holding}

-- ---- whether the book holds a run

-- does it, with this run?
abbrev pub holds : Option (List Step) → Bool
holds none = false
holds (some h) = true

-- does it after each of these calls? A function of the calls alone
abbrev pub holdings : {T : Type 0} → Bool → List (Call T) → List Bool
holdings h [] = []
holdings h (c ∷ cs) = holding h c ∷ holdings (holding h c) cs

module _ (T S : Type 0) (I limit : ℕ) (next : S → ℕ → ℕ → S) (start : S) (Moves : S → ℕ → ℕ → Type 0) where
  steps-holding : (room letter : Bool) (h : List Step) (i : ℕ) (a : Answer) (q : Book)
      → Steps T S I limit next start Moves room letter (book_of h) h i a q → holds q.run ≡ true
  steps-holding false letter h i a q w = rw w.1
  steps-holding true false h i a q w = rw w.1
  steps-holding true true h i a q w = rw w.3

  -- so after one call
  pub writes-holding : (r : Option (List Step)) (c : Call T) (a : Answer) (q : Book)
      → Writes T S I limit next start Moves (record { run = r }) c a q → holds q.run ≡ holding (holds r) c
  writes-holding none (load t) a q w = rw w.1
  writes-holding none (step t i) a q w = rw w.1
  writes-holding none rewind a q w = rw w.1
  writes-holding none unload a q w = rw w.1
  writes-holding (some h) (load t) a q w = rw w.1
  writes-holding (some h) (step t i) a q w = steps-holding (ltb (length h) limit) (ltb i I) h i a q w
  writes-holding (some h) rewind a q w = rw w.1
  writes-holding (some h) unload a q w = rw w.1

  -- however the book is kept, the calls alone say after which of them it holds a run
  pub keeps-holding : (p : Book) (cs : List (Call T)) (es : List Entry) → Keeps T S I limit next start Moves p cs es
      → map (λ (e : Entry). holds e.book.run) es ≡ holdings (holds p.run) cs
  keeps-holding p [] [] k = refl
  keeps-holding p [] (e ∷ es) k = absurd k
  keeps-holding p (c ∷ cs) [] k = absurd k
  keeps-holding p (c ∷ cs) (e ∷ es) k =
      let now : holds e.book.run ≡ holding (holds p.run) c = writes-holding p.run c e.answer e.book k.0 in
      ap₂ {C = List Bool} (λ (h : Bool) (hs : List Bool). h ∷ hs) now
      (keeps-holding e.book cs es k.1 ∙ ap (λ (h : Bool). holdings h cs) now)

  -- ---- it can be kept in one way

  -- the run of a book has led to a state of Good
  abbrev pub GoodRun : (S → Type 0) → Option (List Step) → Type 0
  GoodRun Good none = Unit {0}
  GoodRun Good (some h) = Good (reached S next start h)

  -- the same answer and the same book
  abbrev Alike : Answer → Book → Answer → Book → Type 0
  Alike a q b r = (a ≡ b) × (q ≡ r)

  both : {a b c : Answer} {q r t : Book} → (a ≡ c) × (q ≡ t) → (b ≡ c) × (r ≡ t) → Alike a q b r
  both u v = (u.0 ∙ sym v.0, u.1 ∙ sym v.1)

  module _
      (Good : S → Type 0)
      (Good-start : Good start)
      (good-next : (s : S) (i o : ℕ) → Good s → i < I → Moves s i o → Good (next s i o))
    where
      steps-good : (room letter : Bool) (h : List Step) (i : ℕ) (a : Answer) (q : Book) → ltb i I ≡ letter
          → Good (reached S next start h) → Steps T S I limit next start Moves room letter (book_of h) h i a q → GoodRun Good q.run
      steps-good false letter h i a q e g w = rw w.1 g
      steps-good true false h i a q e g w = rw w.1 g
      steps-good true true h i a q e g w = rw w.3 (good-next _ i w.0 g (ltb-true i I e) w.1)

      -- a call leaves a run that has led to a good state
      pub writes-good : (r : Option (List Step)) (c : Call T) (a : Answer) (q : Book) → GoodRun Good r
          → Writes T S I limit next start Moves (record { run = r }) c a q → GoodRun Good q.run
      writes-good none (load t) a q g w = rw w.1 Good-start
      writes-good none (step t i) a q g w = rw w.1 tt
      writes-good none rewind a q g w = rw w.1 tt
      writes-good none unload a q g w = rw w.1 tt
      writes-good (some h) (load t) a q g w = rw w.1 g
      writes-good (some h) (step t i) a q g w = steps-good (ltb (length h) limit) (ltb i I) h i a q refl g w
      writes-good (some h) rewind a q g w = rw w.1 Good-start
      writes-good (some h) unload a q g w = rw w.1 tt

      -- where a good state has no two moves for an input
      module _ (settled : (s : S) (i o q : ℕ) → Good s → i < I → Moves s i o → Moves s i q → o ≡ q) where
        steps_only : (room letter : Bool) (h : List Step) (i : ℕ) (a b : Answer) (q r : Book) → ltb i I ≡ letter
            → Good (reached S next start h) → Steps T S I limit next start Moves room letter (book_of h) h i a q
            → Steps T S I limit next start Moves room letter (book_of h) h i b r → Alike a q b r
        steps_only false letter h i a b q r e g u v = both u v
        steps_only true false h i a b q r e g u v = both u v
        steps_only true true h i a b q r e g u v =
            let x : u.0 ≡ v.0 = settled _ i u.0 v.0 g (ltb-true i I e) u.1 v.1 in (
              u.2 ∙ ap give x ∙ sym v.2,
              u.3 ∙ ap {B = Book} (λ (o : ℕ). book_of (record { input = i; output = o } ∷ h)) x ∙ sym v.3,
            )

        writes-only : (p : Option (List Step)) (c : Call T) (a b : Answer) (q r : Book) → GoodRun Good p
            → Writes T S I limit next start Moves (record { run = p }) c a q
            → Writes T S I limit next start Moves (record { run = p }) c b r → Alike a q b r
        writes-only none (load t) a b q r g u v = both u v
        writes-only none (step t i) a b q r g u v = both u v
        writes-only none rewind a b q r g u v = both u v
        writes-only none unload a b q r g u v = both u v
        writes-only (some h) (load t) a b q r g u v = both u v
        writes-only (some h) (step t i) a b q r g u v =
            steps_only (ltb (length h) limit) (ltb i I) h i a b q r refl g u v
        writes-only (some h) rewind a b q r g u v = both u v
        writes-only (some h) unload a b q r g u v = both u v

        -- the book of a list of calls can be kept in no two ways
        pub keeps-only : (p : Book) (cs : List (Call T)) (es fs : List Entry) → GoodRun Good p.run
            → Keeps T S I limit next start Moves p cs es → Keeps T S I limit next start Moves p cs fs → es ≡ fs
        keeps-only p [] [] [] g u v = refl
        keeps-only p [] [] (f ∷ fs) g u v = absurd v
        keeps-only p [] (e ∷ es) fs g u v = absurd u
        keeps-only p (c ∷ cs) [] fs g u v = absurd u
        keeps-only p (c ∷ cs) (e ∷ es) [] g u v = absurd v
        keeps-only p (c ∷ cs) (e ∷ es) (f ∷ fs) g u v =
            let x = writes-only p.run c e.answer f.answer e.book f.book g u.0 v.0 in
            let same_entry : e ≡ f =
            ap₂ {C = Entry} (λ (a : Answer) (q : Book). record { answer = a; book = q }) x.0 x.1 in
            let moved : Keeps T S I limit next start Moves f.book cs es =
            subst (λ (q : Book). Keeps T S I limit next start Moves q cs es) x.1 u.1 in
            ap₂ {C = List Entry} (λ (y : Entry) (ys : List Entry). y ∷ ys) same_entry
            (keeps-only f.book cs es fs (writes-good p.run c f.answer f.book g v.0) moved v.1)

      -- where a good state has a move for each input
      module _ (answered : (s : S) (i : ℕ) → Good s → i < I → (o : ℕ) × Moves s i o) where
        -- a call can be answered
        abbrev Answered : Book → Call T → Type 0
        Answered p c = (a : Answer) × (q : Book) × Writes T S I limit next start Moves p c a q

        steps-some : (room letter : Bool) (h : List Step) (i : ℕ) → ltb i I ≡ letter → Good (reached S next start h)
            → (a : Answer) × (q : Book) × Steps T S I limit next start Moves room letter (book_of h) h i a q
        steps-some false letter h i e g = (refuse 22, book_of h, (refl, refl))
        steps-some true false h i e g = (refuse 12, book_of h, (refl, refl))
        steps-some true true h i e g =
            let x = answered _ i g (ltb-true i I e) in
            (give x.0, book_of (record { input = i; output = x.0 } ∷ h), (x.0, x.1, refl, refl))

        writes-some : (r : Option (List Step)) (c : Call T) → GoodRun Good r → Answered (record { run = r }) c
        writes-some none (load t) g = (give 0, book_of [], (refl, refl))
        writes-some none (step t i) g = (refuse 20, empty_book, (refl, refl))
        writes-some none rewind g = (refuse 20, empty_book, (refl, refl))
        writes-some none unload g = (refuse 20, empty_book, (refl, refl))
        writes-some (some h) (load t) g = (refuse 21, book_of h, (refl, refl))
        writes-some (some h) (step t i) g = steps-some (ltb (length h) limit) (ltb i I) h i refl g
        writes-some (some h) rewind g = (give 0, book_of [], (refl, refl))
        writes-some (some h) unload g = (give 0, empty_book, (refl, refl))

        -- the book of a list of calls can be kept
        pub keeps-some : (p : Book) (cs : List (Call T)) → GoodRun Good p.run
            → (es : List Entry) × Keeps T S I limit next start Moves p cs es
        keeps-some p [] g = ([], tt)
        keeps-some p (c ∷ cs) g =
            let x = writes-some p.run c g in
            let rest = keeps-some x.1 cs (writes-good p.run c x.0 x.1 g x.2) in
            (record { answer = x.0; book = x.1 } ∷ rest.0, (x.2, rest.1))
