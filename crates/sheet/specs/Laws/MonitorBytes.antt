-- A monitor's bytes as they are written, read back at their offsets.
-- Assumes nothing.
use Rattle.std.specs.Prelude.{◌≡◌, true}
use Rattle.std.proofs.Math.Path.{refl, sym}
use Rattle.std.proofs.Common.{◌∙◌, add-zero, arith, length-append}
use mathlib.Core.List.{List, [], ◌∷◌, ◌++◌}
use Prim.Native.Nat.{ℕ, ◌+◌, ◌*◌, ◌/◌, ◌%◌, ◌<◌}
use Rattle.std.proofs.Math.Nat.{add_assoc}
use Rattle.std.proofs.Math.ListN.{length, get_or, get_or-append}
use Rattle.std.proofs.Math.Seq.{get_or-append-add}
use Rattle.std.proofs.Math.Arith.{digits_lt}
use Rattle.records.specs.Meaning.Lists.{tab, cat}
use Rattle.records.specs.Laws.Lists.{tab_eq, length-cat, get_d_cat, cat_each}
use Rattle.records.specs.Meaning.Numbers.{u16_at}
use Rattle.records.specs.Meaning.Records.{size_at, kind_at, body_at}
use Rattle.sheet_fields.specs.Meaning.Places.{role_at, weight_at, states_at, first_at}
use Rattle.sheet.specs.Meaning.Decoded.{Automaton, Decoded, letters, letters_read, MonitorOk, encode_monitor}
use Rattle.sheet.specs.Model.Where.{automaton}
use Rattle.sheet_fields.specs.Meaning.Monitor.{monitor_ok}
use Rattle.sheet.specs.Model.MonitorRecord.{monitor_at}
use Rattle.sheet.specs.Laws.Judged.{Role, Body, monitor_test}
use Rattle.sheet.specs.declared.layout.Sheet.{Sheet}

-- the rows of an automaton, one after the other
abbrev pub row_bytes : Automaton → List ℕ
row_bytes a = cat (length a.rows) (λ q. get_or a.rows q [])

-- they have a next state for each state and letter
pub length-row_bytes : (d : Decoded) (a : Automaton) → MonitorOk d a → length (row_bytes a) ≡ length a.accept * letters d a
length-row_bytes d a o =
    length-cat (letters d a) (length a.rows) (λ q. get_or a.rows q []) (λ q l. o.row q (omega (arith, o.rows)))
    ∙ rw o.rows

-- the bytes of a monitor's record
pub length_monitor : (d : Decoded) (a : Automaton) → MonitorOk d a
    → length (encode_monitor d a) ≡ 4 + (4 + length a.accept + length a.accept * letters d a)
unfolding encode_monitor
length_monitor d a o = rw (length-append a.accept (row_bytes a), length-row_bytes d a o) (omega arith)

module _ (s p r : List ℕ) (d : Decoded) (a : Automaton) (o : MonitorOk d a) (e : s ≡ p ++ (encode_monitor d a ++ r)) where
  from : (k : ℕ) → get_or s (length p + k) 0 ≡ get_or (encode_monitor d a ++ r) k 0
  from k = rw e (get_or-append-add p (encode_monitor d a ++ r) k 0)

  pub size_back : size_at s (length p) ≡ 4 + length a.accept + length a.accept * letters d a
  unfolding u16_at encode_monitor
  size_back = rw (from 1, rw (add-zero (length p)) at (from 0)) (omega arith)

  pub kind_back : kind_at s (length p) ≡ 2
  unfolding u16_at encode_monitor
  kind_back = rw (add_assoc (length p) 2 1, from 2, from 3)

  role_back : role_at s (body_at (length p)) ≡ a.role
  unfolding encode_monitor
  role_back = from 4

  weight_back : weight_at s (body_at (length p)) ≡ a.weight
  unfolding encode_monitor
  weight_back = rw (add_assoc (length p) 4 1) (from 5)

  states_back : states_at s (body_at (length p)) ≡ length a.accept
  unfolding encode_monitor
  states_back = rw (add_assoc (length p) 4 2) (from 6)

  start_back : first_at s (body_at (length p)) ≡ a.start
  unfolding encode_monitor
  start_back = rw (add_assoc (length p) 4 3) (from 7)

  tables : (k : ℕ) → get_or s (length p + 4 + 4 + k) 0 ≡ get_or ((a.accept ++ row_bytes a) ++ r) k 0
  unfolding encode_monitor
  tables k =
      let n : ℕ = 4 + length a.accept + length a.accept * letters d a in
      rw (add_assoc (length p) 4 4, add_assoc (length p) 8 k)
      (from (8 + k)
      ∙ get_or-append-add (n % 256 ∷ n / 256 ∷ 2 ∷ 0 ∷ a.role ∷ a.weight ∷ length a.accept ∷ a.start ∷ [])
      ((a.accept ++ row_bytes a) ++ r) k 0)

  accept_back : (q : ℕ) → q < length a.accept → get_or s (length p + 4 + 4 + q) 0 ≡ get_or a.accept q 0
  accept_back q l =
      tables q
      ∙ get_or-append (a.accept ++ row_bytes a) r 0 q (omega (arith, length-append a.accept (row_bytes a)))
      ∙ get_or-append a.accept (row_bytes a) 0 q l

  row_back : (k : ℕ) → k < length a.accept * letters d a
      → get_or s (length p + 4 + 4 + length a.accept + k) 0 ≡ get_or (row_bytes a) k 0
  row_back k l =
      rw (add_assoc (length p + 4 + 4) (length a.accept) k)
      (tables (length a.accept + k)
      ∙ get_or-append (a.accept ++ row_bytes a) r 0 (length a.accept + k)
      (omega (arith, length-append a.accept (row_bytes a), length-row_bytes d a o))
      ∙ get_or-append-add a.accept (row_bytes a) k 0)

  next_back : (q l : ℕ) → q < length a.accept → l < letters d a
      → get_or s (length p + 4 + 4 + length a.accept + (q * letters d a + l)) 0 ≡ get_or (get_or a.rows q []) l 0
  next_back q l u v =
      row_back (q * letters d a + l) (digits_lt u v)
      ∙ get_d_cat (letters d a) (length a.rows) (λ q. get_or a.rows q []) (λ q l. o.row q (omega (arith, o.rows))) q l 0
      (omega (arith, o.rows)) v

  -- ---- under a layout with the sheet's lines

  module _ (h : Sheet) (mode : h.mode ≡ d.mode) (site : h.site ≡ d.site) (outputs : h.outputs ≡ d.outputs) where
    wide : letters_read (role_at s (body_at (length p))) h.site h.outputs ≡ letters d a
    wide = rw (role_back, site, outputs)

    body : Body s (body_at (length p)) (letters d a) (size_at s (length p))
    body =
        record {
          states_least = rw states_back o.states_least;
          states_most = rw states_back o.states_most;
          start = rw (states_back, start_back) o.start;
          size_is = rw states_back size_back;
          accept = rw states_back (λ q l. rw (accept_back q l) (o.accept q l));
          next = rw states_back
              (λ k l. rw (row_back k l)
              (cat_each (λ x. x < length a.accept) 0 (length a.rows) (λ q. get_or a.rows q [])
              (λ q i u v. o.next q i (omega (arith, o.rows)) (rw (← o.row q (omega (arith, o.rows))) v))
              k (rw (length-row_bytes d a o) l)));
        }

    role : Role h.mode (role_at s (body_at (length p))) (weight_at s (body_at (length p)))
    role =
        rw (mode, role_back, weight_back)
        (record { role_most = o.role; limit = o.limit; soft = o.soft; unweighted = o.unweighted })

    -- the record passes its tests
    pub monitor_passes : monitor_ok s h.mode h.site h.outputs (body_at (length p)) (size_at s (length p)) ≡ true
    monitor_passes = monitor_test s h.mode h.site h.outputs (body_at (length p)) (size_at s (length p)) role (rw wide body)

    -- and is read as the automaton that was written
    pub monitor_back : automaton s h (monitor_at s (body_at (length p))) ≡ a
    unfolding automaton monitor_at
    monitor_back =
        rw (wide, states_back)
        (λ t. record {
          role = role_back t;
          weight = weight_back t;
          start = start_back t;
          accept = sym (tab_eq 0 (length a.accept) (λ q. get_or s (length p + 4 + 4 + q) 0) a.accept refl
              (λ q l. sym (accept_back q l))) t;
          rows =
              sym
              (tab_eq [] (length a.accept)
              (λ q. tab (letters d a) (λ l. get_or s (length p + 4 + 4 + length a.accept + (q * letters d a + l)) 0)) a.rows o.rows
              (λ q u.
              tab_eq 0 (letters d a) (λ l. get_or s (length p + 4 + 4 + length a.accept + (q * letters d a + l)) 0)
              (get_or a.rows q []) (o.row q u) (λ l v. sym (next_back q l u v)))) t;
        })
