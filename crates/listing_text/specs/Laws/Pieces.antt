-- Laws of text put piece by piece: words, elements and blocks one after the other, and the room for them.
-- Assumes nothing.
use Rattle.std.specs.Prelude.{◌≡◌, refl, List, ◌++◌, ℕ, ◌+◌, ◌-◌, ◌≤◌, ◌<◌, length, get_or, set, take, drop}
use Rattle.std.proofs.Common.{sym, ap, ◌∙◌, arith, append_assoc, length-append}
use Rattle.std.proofs.lemmas.List.{drop-drop}
use borrow.Rule.Slice.PartMut.{put_mid}
use Rattle.std.proofs.lemmas.List.Edits.{sets, sets-eq}
use Rattle.std.proofs.Math.Seq.{length-sets}
use Rattle.records.specs.Meaning.Lists.{tab, cat}
use Rattle.records.specs.Laws.Lists.{length-tab, tab_self, cat_none, cat_more, cat-at, sets_append, sets_more}
use Rattle.guard_table.specs.Meaning.GuardTable.{head_inputs, head_outputs, head_horizon, head_count, output_in, next_in}
use Rattle.listing_text.specs.Meaning.Listing.{head_line, entry_text, listing, entry_of, row_of, listing_of}
use Rattle.listing_text.specs.Model.Put.{Put}

pub put_same : {before : List ℕ} {at : ℕ} {words : List ℕ} {place : ℕ} {after : List ℕ} → Put before at words place after
    → length after ≡ length before
put_same {before} {at} {words} p = ap length p.bytes ∙ length-sets before at words

pub put_then : {before : List ℕ} {at : ℕ} {xs ys : List ℕ} {place end : ℕ} {now after : List ℕ}
    → Put before at xs place now → Put now place ys end after → Put before at (xs ++ ys) end after
put_then {before} {at} {xs} {ys} {place} {end} {now} {after} p q =
    record {
      place_is = omega (arith, p.place_is, q.place_is, length-append xs ys);
      bytes =
          q.bytes
          ∙ ap (λ (k : ℕ). sets now k ys) p.place_is
          ∙ ap (λ (l : List ℕ). sets l (at + length xs) ys) p.bytes
          ∙ sets_append before at xs ys;
    }

-- where two pieces fit, the second does after the first
pub fits_rest : {before : List ℕ} {at : ℕ} {xs : List ℕ} {place : ℕ} {now : List ℕ} → Put before at xs place now
    → (ys : List ℕ) → at + length (xs ++ ys) ≤ length before → place + length ys ≤ length now
fits_rest {before} {at} {xs} p ys h = omega (arith, put_same p, p.place_is, length-append xs ys)

pub put_as : {before : List ℕ} {at : ℕ} {xs ys : List ℕ} {place : ℕ} {after : List ℕ} → Put before at xs place after → xs ≡ ys
    → Put before at ys place after
put_as p e = rw e at p

-- elements, as a loop puts them
pub word_none : (before : List ℕ) (at : ℕ) (f : ℕ → ℕ) → Put before at (tab 0 f) (at + 0) before
unfolding tab
word_none before at f = record { place_is = refl; bytes = refl }

pub word_more : (f : ℕ → ℕ) (i : ℕ) {before : List ℕ} {at place : ℕ} {now : List ℕ} → Put before at (tab i f) place now
    → Put before at (tab (i + 1) f) (at + (i + 1)) (set now (at + i) (f i))
word_more f i {before} {at} p =
    record {
      place_is = omega (arith, length-tab (i + 1) f);
      bytes = ap (λ (l : List ℕ). set l (at + i) (f i)) p.bytes ∙ sets_more before at i f;
    }

pub word_all : (word : List ℕ) (i : ℕ) → i ≡ length word → {before : List ℕ} {at place : ℕ} {now : List ℕ}
    → Put before at (tab i (λ j. get_or word j 0)) place now → Put before at word place now
word_all word i e p = put_as p (ap (λ (n : ℕ). tab n (λ j. get_or word j 0)) e ∙ sym (tab_self 0 word))

-- a word that was copied over a part as long
pub word_put : (before word : List ℕ) (at : ℕ) → at + length word ≤ length before → {copy : List ℕ} → copy ≡ word
    → Put before at word (at + length word) (put_mid at (at + length word - at) before copy)
word_put before word at room e =
    let wide : at + length word - at ≡ length word = omega arith in
    record {
      place_is = refl;
      bytes = rw (e, wide, drop-drop) (sym (sets-eq word before at room ∙ append_assoc (take at before) word (drop (at + length word) before)));
    }

-- blocks, as a loop puts them
pub piece_none : (before : List ℕ) (at : ℕ) (f : ℕ → List ℕ) → Put before at (cat 0 f) at before
piece_none before at f = rw cat_none (record { place_is = omega arith; bytes = refl })

pub piece_more : (f : ℕ → List ℕ) (k : ℕ) {before : List ℕ} {at place end : ℕ} {now after : List ℕ}
    → Put before at (cat k f) place now → Put now place (f k) end after → Put before at (cat (k + 1) f) end after
piece_more f k p q = rw cat_more (put_then p q)

pub put_all : (f : ℕ → List ℕ) (k n : ℕ) → k ≡ n → {before : List ℕ} {at place : ℕ} {now : List ℕ}
    → Put before at (cat k f) place now → Put before at (cat n f) place now
put_all f k n e p = put_as p (ap (λ (m : ℕ). cat m f) e)

-- where all fit, the next one does
pub fits_next : (f : ℕ → List ℕ) (k n : ℕ) → k < n → {before : List ℕ} {at place : ℕ} {now : List ℕ}
    → Put before at (cat k f) place now → at + length (cat n f) ≤ length before → place + length (f k) ≤ length now
fits_next f k n h p room =
    let r = cat-at n f k h in
    omega (
      arith,
      put_same p,
      p.place_is,
      ap length r.1,
      length-append (cat k f) (f k ++ r.0),
      length-append (f k) r.0,
    )

-- the entry that was found
pub entry_found : (t : List ℕ) (inputs k i : ℕ) {out next : ℕ} → out ≡ output_in t inputs k i → next ≡ next_in t inputs k i
    → entry_text out next ≡ entry_of t inputs k i
unfolding entry_of
entry_found t inputs k i e f = rw (e, f)

-- the listing of a table whose count was read: the first line, then the lines of the states
pub listing_parts : (t : List ℕ) {count : ℕ} → count ≡ head_count t
    → head_line count (head_inputs t) (head_outputs t) (head_horizon t) ++ cat count (row_of t (head_inputs t)) ≡ listing_of t
unfolding listing_of listing row_of
listing_parts t e = rw e

-- and of one whose bytes and head were taken apart
pub closed_parts : (t : List ℕ) {bytes : List ℕ} {inputs count : ℕ} → bytes ≡ t → inputs ≡ head_inputs t → count ≡ head_count t
    → head_line count inputs (head_outputs t) (head_horizon t) ++ cat count (row_of bytes inputs) ≡ listing_of t
closed_parts t b i e = rw (b, i) (listing_parts t e)
