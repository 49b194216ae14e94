-- The maker's answer for a sheet, told, is what is printed for it; and it fits the text memory.
-- Assumes nothing.
use mathlib.Core.Path.{◌≡◌, refl, sym, ap, ap₂, ◌∙◌, subst}
use mathlib.Core.Bool.{Bool, true, false, cond, false≢true}
use mathlib.Core.List.{List}
use Rattle.std.specs.Prelude.{Result, Ok, Err}
use mathlib.Core.Logic.{⊎_elim}
use Prim.Native.Nat.{ℕ, zero, suc, ◌≤◌, ◌<◌}
use native.Mathlib.Omega.{arith}
use lib.Dec.{ltb, eqb}
use lib.ListN.{length, take}
use lib.Seq.{sets, length-sets, length-take-le, take_all, take-append_seam}
use borrow.Author.Tests.{ltb-false, lt-ltb, le-ltb, le-leb, lt-leb, ne_eqb}
use Rattle.records.specs.Laws.Tests.{by_test}
use Rattle.records.specs.Meaning.Limits.{max_states}
use Rattle.records.specs.Laws.Lists.{sets_front}
use Rattle.records.specs.Meaning.Numbers.{Bytes}
use Rattle.records.specs.Meaning.Work.{long_enough}
use Rattle.records.specs.Laws.Work.{exactly, exactly_enough}
use Rattle.guard_table.specs.Model.Inside.{table_most}
use Rattle.guard_table.specs.Meaning.RowKind.{kind_for}
use Rattle.guard_table.specs.Laws.GuardTable.{length_most}
use Rattle.sheet.specs.Meaning.Decoded.{Decoded, SheetOk, input_lines}
use Rattle.sheet.specs.Meaning.Grounds.{ground_number}
use Rattle.sheet.specs.Laws.Grounds.{some_number, answered}
use Rattle.sheet.specs.Meaning.Refusals.{sheet_number, first_number}
use Rattle.sheet.specs.Laws.Reading.{reads}
use Rattle.sheet.specs.Model.Reader.{reading}
use Rattle.sheet.specs.declared.layout.Refusal.{Refusal}
use Rattle.product.specs.Model.ProductNumbering.{state_count}
use Rattle.rounds.specs.Model.TableRounds.{is_in}
use Rattle.solve.specs.Model.Steps.{dropped_of}
use Rattle.solve.specs.Model.Making.{sheet_of, many_number, lost_number, room_number, table_number, making_number, Answers}
use Rattle.solve.specs.Meaning.Made.{made_number, made_length, made_states}
use Rattle.solve.specs.Laws.Judging.{accepted_layout}
use Rattle.solve.specs.Laws.StateGrounds.{start_in}
use Rattle.solve.specs.declared.made.Made.{Made}
use Rattle.guard_table.specs.Meaning.Loadable.{loadable}
use Rattle.plan.specs.Model.GuardOfSheet.{guard_table_by, guard_table_of, states_of}
use Rattle.guard.specs.Promises.GuardMaker.{guard_work, MakesGuard}
use Rattle.plan.specs.Laws.Reaching.{guard_fits}
use Rattle.plan.specs.Laws.Solved.{sheet_horizon}
use Rattle.guard.specs.Laws.Running.{table_loads}
use Rattle.plan.specs.Laws.Answered.{length-guard}
use Rattle.listing_text.specs.Meaning.Listing.{listing_of, refused_text, too_long_text}
use Rattle.report.specs.Promises.Report.{Writes, text_length, outcome_due, outcome_text, listed_length}
use Rattle.report.specs.Laws.ListingAnswers.{writes_fits, outcome_most}
use Rattle.report.specs.declared.ListRefusal.{ListRefusal}
use Rattle.listing.specs.Promises.Printed.{sheet_most, sheet_ground, guard_text, printed, Prints, Tells, PrintsGuard, PrintsSheet, ReadInto, read_text, PrintsRead}

-- ---- a sheet that is accepted

solved : (d : Decoded) → first_number (many_number d) (lost_number d) ≡ 0 → (state_count d ≤ max_states) × (is_in (dropped_of d) 0 ≡ true)
unfolding many_number lost_number
solved d e = let r = pass (ltb max_states (state_count d)) (is_in (dropped_of d) 0) e in (ltb-false max_states (state_count d) r.0, r.1)
  where
    pass : (a b : Bool) → first_number (cond a 7 0) (cond b 0 8) ≡ 0 → (a ≡ false) × (b ≡ true)
    pass true b e = absurd (omega arith)
    pass false true e = (refl, refl)
    pass false false e = absurd (omega arith)

both : (m n : ℕ) → first_number m n ≡ 0 → (m ≡ 0) × (n ≡ 0)
both zero n e = (refl, e)
both (suc m) n e = absurd (omega arith)

accepted : (s : List ℕ) → sheet_ground s ≡ 0 → (sheet_number s ≡ 0) × (state_count (sheet_of s) ≤ max_states)
    × (is_in (dropped_of (sheet_of s)) 0 ≡ true)
unfolding sheet_ground
accepted s e = let r = both (sheet_number s) (first_number (many_number (sheet_of s)) (lost_number (sheet_of s))) e in
    let g = solved (sheet_of s) r.1 in (r.0, g.0, g.1)

in_bounds : (s : List ℕ) → Bytes s → sheet_number s ≡ 0 → SheetOk (sheet_of s)
unfolding sheet_of
in_bounds s bytes none =
    let h = answered (reading s) ((reads s bytes).number ∙ none) in
    let fits = rw h.1 at (reads s bytes).fits in
    rw h.1 fits.ok

module _ (d : Decoded) (ok : SheetOk d) (fits : state_count d ≤ max_states) (start : is_in (dropped_of d) 0 ≡ true) where
  -- its table is loadable
  loads : loadable (guard_table_of d) ≡ true
  unfolding guard_table_by
  loads = table_loads d fits start ok.head d.horizon (sheet_horizon d ok.horizon)

  -- and fits the result memory
  short : length (guard_table_of d) ≤ table_most
  short =
      let few : states_of d ≤ max_states = omega (arith, guard_fits d fits d.horizon start) in
      omega (arith, length-guard (λ x. x.horizon) d, length_most (kind_for (states_of d)) (input_lines d) (states_of d) ok.head.inputs few)

-- ---- the number of the maker's answer

number_as : (d : Decoded) (size room : ℕ) → (state_count d ≤ max_states → is_in (dropped_of d) 0 ≡ true → size ≤ room)
    → table_number d size room ≡ first_number (many_number d) (lost_number d)
unfolding table_number many_number lost_number room_number
number_as d size room h =
    by_test (ltb max_states (state_count d)) (λ e. rw e)
    (λ e. by_test (is_in (dropped_of d) 0) (λ f. rw (e, f, le-leb size room (h (ltb-false max_states (state_count d) e) f))) (λ f. rw (e, f)))

-- with enough work memory, and result memory of the longest table
making_as : (s : List ℕ) → Bytes s → making_number guard_table_of true s table_most ≡ sheet_ground s
unfolding making_number sheet_ground
making_as s bytes = go (sheet_number s) refl
  where
    go : (n : ℕ) → sheet_number s ≡ n
        → first_number n (table_number (sheet_of s) (length (guard_table_of (sheet_of s))) table_most)
        ≡ first_number n (first_number (many_number (sheet_of s)) (lost_number (sheet_of s)))
    go zero e = number_as (sheet_of s) (length (guard_table_of (sheet_of s))) table_most (short (sheet_of s) (in_bounds s bytes e))
    go (suc n) e = refl

-- ---- what is told of it

front : (before table : List ℕ) → length table ≤ length before → take (length table) (sets before 0 table) ≡ table
front before table h = rw (sets_front before table h) (take-append_seam table _)

-- a ground has a number
some_ground : (g : Refusal) → eqb (ground_number g) 0 ≡ false
some_ground g = ne_eqb (ground_number g) 0 (λ z. omega (arith, (some_number g).1))

-- a text is due, and it is the one that is printed
pub record Due (s : List ℕ) (due : Bool) (words : List ℕ) : Type 0 where
  pub due_is : due ≡ true
  pub words_are : words ≡ guard_text s

pub outcome_tells : (s : List ℕ) → Bytes s → (before : List ℕ) → length before ≡ table_most → (r : Result Made Refusal) {after : List ℕ}
    → Answers guard_table_of states_of true s before r after → Due s (outcome_due r after) (outcome_text r after)
unfolding outcome_due outcome_text guard_text
outcome_tells s bytes before size (Ok made) {after} answers =
    let d = sheet_of s in
    let none : sheet_ground s ≡ 0 = sym (making_as s bytes) ∙ ap (making_number guard_table_of true s) (sym size) ∙ sym answers.number in
    let a = accepted s none in
    let ok = in_bounds s bytes a.0 in
    let fits : length (guard_table_of d) ≤ length before = omega (arith, short d ok a.1 a.2) in
    let table : take made.length after ≡ guard_table_of d =
    ap₂ take answers.size answers.bytes ∙ front before (guard_table_of d) fits in
    let inside : made.length ≤ length after =
    omega (arith, answers.size, ap length answers.bytes ∙ length-sets before 0 (guard_table_of d)) in
    record {
      due_is = rw (le-leb made.length (length after) inside, table) (loads d ok a.1 a.2);
      words_are = rw (table, none);
    }
outcome_tells s bytes before size (Err ground) {after} answers =
    let same : ground_number ground ≡ sheet_ground s =
    answers.number ∙ ap (making_number guard_table_of true s) size ∙ making_as s bytes in
    record { due_is = refl; words_are = rw (← same, some_ground ground) }

-- ---- what is left of it in the text memory

-- a text that is due and fits, by its length
pub writes_prints : {due : Bool} {r : ℕ} {words text before : List ℕ} {x : Result ℕ ListRefusal} {after : List ℕ} → Writes due words before x after
    → due ≡ true → length words ≤ length before → words ≡ text → r ≡ listed_length x → Prints text before r after
writes_prints {before = before} w e h f g =
    let none = writes_fits w e h in
    record {
      size = g ∙ w.size ∙ rw none (ap length f);
      bytes = w.bytes ∙ rw none (ap (λ (l : List ℕ). sets before 0 l) f);
      inside = omega (arith, w.inside);
    }

-- ---- what it means

-- the text of a refusal, and of a table
refusal_text : (r : Result Made Refusal) (after : List ℕ) (n : ℕ) → 1 ≤ made_number r → made_number r ≡ n → outcome_text r after ≡ refused_text n
unfolding outcome_text
refusal_text (Ok made) after n h e = absurd (omega arith)
refusal_text (Err ground) after n h e = ap refused_text e

table_text : (r : Result Made Refusal) (after : List ℕ) → made_number r ≡ 0 → outcome_text r after ≡ listing_of (take (made_length r) after)
unfolding outcome_text
table_text (Ok made) after e = refl
table_text (Err ground) after e = absurd (omega (arith, (some_number ground).1))

module _ {s before lent : List ℕ} {made : Result Made Refusal} {after : List ℕ} (m : MakesGuard s before lent made after) (bytes : Bytes s)
    (size : length before ≡ table_most) (exact : lent ≡ exactly guard_work)
  where
    enough : long_enough guard_work lent ≡ true
    enough = ap (long_enough guard_work) exact ∙ exactly_enough guard_work

    told : Tells s (guard_text s)
    told =
        record {
          no_sheet = λ none.
              says (sheet_number s) ((m.makes.bad_sheet enough).1 none).0 (m.makes.cause enough none);
          too_many = λ d x many. let e = (m.makes.too_many enough d x).1 many in says 7 (omega (arith, e)) e;
          unrealizable = λ d x few lost. let e = (m.makes.unrealizable enough d x few).1 lost in says 8 (omega (arith, e)) e;
          listed = λ d a.
              let fits = accepted_layout a in
              let room = short d a.sheet.in_bounds fits ((start_in d fits).1 a.realizable) in
              let e = m.makes.exactly.1 (d, a, enough, omega (arith, size, room)) in
              (made_states made, take (made_length made) after, m.written e d a, sym due ∙ table_text made after e);
        }
      where
        due : outcome_text made after ≡ guard_text s
        due =
            (outcome_tells s bytes before size made (rw enough at m.makes.answers)).words_are

        says : (n : ℕ) → 1 ≤ made_number made → made_number made ≡ n → guard_text s ≡ refused_text n
        says n h e = sym due ∙ refusal_text made after n h e

    -- what the maker answered, told in enough text memory
    pub outcome_prints : {memory : List ℕ} {x : Result ℕ ListRefusal} {now : List ℕ} → text_length ≤ length memory
        → Writes (outcome_due made after) (outcome_text made after) memory x now → {r : ℕ} → r ≡ listed_length x
        → PrintsGuard s memory r now
    outcome_prints room writes e =
        let tells = outcome_tells s bytes before size made (rw enough at m.makes.answers) in
        record {
          prints =
              writes_prints writes tells.due_is (omega (arith, outcome_most made after tells.due_is)) tells.words_are e;
          tells = told;
        }

-- ---- by the test of the length

prints_guard : (s : List ℕ) {before : List ℕ} {r : ℕ} {after : List ℕ} → length s ≤ sheet_most → PrintsGuard s before r after
    → PrintsSheet s before r after
unfolding printed
prints_guard s h p =
    let e = le-leb (length s) sheet_most h in
    record {
      prints = rw e p.prints;
      too_long = λ l. absurd (omega arith);
      tells = λ _. rw e p.tells;
    }

prints_long : (s : List ℕ) {before : List ℕ} {r : ℕ} {after : List ℕ} → sheet_most < length s → Prints too_long_text before r after
    → PrintsSheet s before r after
unfolding printed
prints_long s h p =
    let e = lt-leb (length s) sheet_most h in
    record { prints = rw e p; too_long = λ _. rw e; tells = λ l. absurd (omega arith) }

-- ---- by how much was read

-- where the end was seen, the input is what was read
all_read : {w memory : List ℕ} {size : ℕ} {ended : Bool} → ReadInto w memory size ended → ended ≡ true → take size memory ≡ w
all_read {w} {size = size} read e = read.front ∙ take_all size w (omega (arith, read.end e))

pub short_read : (memory : List ℕ) {size : ℕ} {ended : Bool} {before : List ℕ} {r : ℕ} {after : List ℕ} → size ≤ sheet_most
    → size ≤ length memory → ended ≡ true → PrintsGuard (take size memory) before r after → PrintsRead memory size ended before r after
unfolding read_text
short_read memory {size} {before = before} {r} {after} h room e p =
    let short : length (take size memory) ≤ sheet_most = omega (arith, length-take-le size memory room) in
    record {
      prints = rw (le-ltb sheet_most size h, e) p.prints;
      whole = λ w read _.
          subst (λ (s : List ℕ). PrintsSheet s before r after) (all_read read e) (prints_guard (take size memory) short p);
    }

-- the memory has room for one byte more than a sheet: it is not full
pub cut_read : (memory : List ℕ) {size : ℕ} {ended : Bool} (before : List ℕ) → size ≤ sheet_most → sheet_most < length memory
    → ended ≡ false → PrintsRead memory size ended before 0 before
unfolding read_text
cut_read memory {size} before h room e =
    record {
      prints = rw (le-ltb sheet_most size h, e) record { size = refl; bytes = refl; inside = omega arith };
      whole = λ w read. ⊎_elim (λ seen. absurd (false≢true (sym e ∙ seen))) (λ full. absurd (omega arith));
    }

pub long_read : (memory : List ℕ) {size : ℕ} {ended : Bool} {before : List ℕ} {r : ℕ} {after : List ℕ} → sheet_most < size
    → Prints too_long_text before r after → PrintsRead memory size ended before r after
unfolding read_text
long_read memory {size} h p =
    record {
      prints = rw (lt-ltb sheet_most size h) p;
      whole = λ w read _. prints_long w (omega (arith, read.held)) p;
    }
