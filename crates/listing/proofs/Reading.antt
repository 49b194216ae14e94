-- What a reader with known bytes gives, in parts and at its end, and what is printed for the whole of them. Assumes nothing.
use Rattle.std.proofs.Common.{◌≡◌, ℕ, ◌+◌, ◌≤◌, ◌<◌, Bool, true, IsTrue, ◌↔◌, ◌⊎◌, inl, inr, List, [], ◌++◌, Option, Some, None, IfSome, length, take, sym, ap, ◌∙◌, subst, arith, length-append, length-take-le, take_at}
use Rattle.std.proofs.lemmas.List.{take-append-le}
use Rattle.std.proofs.lemmas.List.Edits.{sets-eq}
use Rattle.std.proofs.Math.Nat.{eq-or-lt_of_le}
use Rattle.std.proofs.Math.Seq.{take-append-add, take-append_seam, length-sets}
use Rattle.std.specs.Io.KnownBytes.{Appends, Consumes, IsAtEnd}
use Rattle.std.proofs.KnownBytes.{Consumes-trans}
use Rattle.listing.specs.Promises.Printed.{Prints, ReadInto, PrintsRead, AppendsSheet}

-- the front, and n bytes of the part behind it
take-behind : (front part rest : List ℕ) (at n : ℕ) → length front ≡ at → n ≤ length part
    → take (at + n) (front ++ (part ++ rest)) ≡ front ++ take n part
take-behind front part rest at n size fits =
    ap (λ k. take (k + n) (front ++ (part ++ rest))) (sym size) ∙ take-append-add front (part ++ rest) n
    ∙ ap (λ l. front ++ l) (take-append-le n part rest fits)

-- the front was read, and then n bytes into the part behind it
pub Consumes-behind : (a b c : Option (List ℕ)) (front part rest : List ℕ) (at n : ℕ) → length front ≡ at → n ≤ length part
    → Consumes a b front → Consumes b c (take n part) → Consumes a c (take (at + n) (front ++ (part ++ rest)))
Consumes-behind a b c front part rest at n size fits before read =
    subst (Consumes a c) (sym (take-behind front part rest at n size fits)) (Consumes-trans a b c front (take n part) before read)

-- what was printed stands at the start of the text memory
printed_front : (words before : List ℕ) {r : ℕ} {after : List ℕ} → Prints words before r after → take r after ≡ words
printed_front words before {r} {after} p =
    let fits : length words ≤ length before = omega (arith, p.size, p.inside, ap length p.bytes, length-sets before 0 words) in
    ap (λ n. take n after) p.size ∙ ap (take (length words)) (p.bytes ∙ sets-eq words before 0 (omega arith)) ∙ take-append_seam words _

-- ---- `size` bytes were read into a memory, and then it was asked whether the input ends behind them

module _ (memory : List ℕ) (size : ℕ) (ended : Bool) (room : size ≤ length memory) where
  -- they are those of the whole input, or the memory is full
  read_into : (w rest : List ℕ) → w ≡ take size memory ++ rest → (size < length memory → rest ≡ []) → IsTrue ended ↔ (rest ≡ [])
      → ReadInto w memory size ended × ((ended ≡ true) ⊎ (size ≡ length memory))
  read_into w rest split short ends =
      let front : length (take size memory) ≡ size = length-take-le size memory room in
      let long : length w ≡ size + length rest =
      ap length split ∙ length-append (take size memory) rest ∙ ap (λ n. n + length rest) front in (
        record {
          room = room;
          held = omega arith;
          front = sym (ap (take size) split ∙ take_at (take size memory) rest size front);
          end = λ e. let none : length rest ≡ 0 = ap length (ends.0 e) in omega arith;
        },
        elim (eq-or-lt_of_le room) [ inl e ↦ inr e | inr h ↦ inl (ends.1 (short h)) ],
      )

  -- so what is printed of them and appended is what is due for the whole
  pub appends_whole : (a b old new : Option (List ℕ)) {before : List ℕ} {r : ℕ} {after : List ℕ} → Consumes a b (take size memory)
      → (size < length memory → IsAtEnd b) → IfSome b (λ rest. IsTrue ended ↔ (rest ≡ []))
      → PrintsRead memory size ended before r after → Appends old new (take r after) → IfSome a (λ w. AppendsSheet w old new)
  appends_whole None b old new read short ends prints appends = tt
  appends_whole (Some w) None old new read short ends prints appends = absurd read
  appends_whole (Some w) (Some rest) old new {before} read short ends prints appends =
      let into = read_into w rest read short ends in
      let due = prints.whole w into.0 into.1 in
      record {
        appends = subst (Appends old new) (printed_front _ before due.prints) appends;
        too_long = due.too_long;
        tells = due.tells;
      }
