-- A sheet that is accepted is one in bounds, and its bytes are those of the sheet that the layout stands for.
-- Assumes nothing.
use Rattle.std.specs.Prelude.{◌≡◌, Ok}
use Rattle.std.proofs.Math.Path.{refl, sym, ap, ap₂}
use Rattle.std.proofs.Common.{◌∙◌, add_assoc, add-zero, lt-ltb}
use mathlib.Core.List.{List, [], ◌∷◌, ◌++◌, append-nil, append_assoc}
use Prim.Native.Nat.{ℕ, zero, suc, ◌+◌, ◌-◌, ◌*◌, ◌≤◌, ◌<◌}
use Rattle.std.proofs.Math.Nat.{zero-add}
use native.Mathlib.Omega.{arith}
use Rattle.std.proofs.Math.ListN.{length, get_or}
use Rattle.std.proofs.Math.Arith.{digits_lt}
use Rattle.records.specs.Meaning.Lists.{tab, cat}
use Rattle.records.specs.Laws.Lists.{length-tab, get_d_tab, tab_ext, part-add, part-whole}
use Rattle.records.specs.Model.Lists.{part}
use Rattle.records.specs.Meaning.Numbers.{Bytes}
use Rattle.records.specs.Meaning.Records.{size_at, kind_at, body_at, end_at}
use Rattle.records.specs.Laws.Cursor.{header_there}
use Rattle.records.specs.Meaning.Limits.{max_outputs, max_monitor_states}
use Rattle.records.specs.Laws.Limits.{Horizon, horizon_facts}
use Rattle.sheet.specs.Meaning.Decoded.{Decoded, monitor_of, guard_lines, letters_read, HeadOk, HorizonOk, MonitorOk, SheetOk, encode_head, encode_monitor, encode}
use Rattle.sheet.specs.Laws.Grounds.{given, ok_inj}
use Rattle.sheet.specs.Model.Where.{width, automaton, decoded, Fits}
use Rattle.sheet_fields.specs.Meaning.Places.{mode_at, site_at, outputs_at, horizon_at, matching_at, literals_from, monitor_numbers, role_at, weight_at, states_at, first_at}
use Rattle.sheet_fields.specs.Model.Head.{literal_at}
use Rattle.sheet.specs.Model.HeadRecord.{head_sheet}
use Rattle.sheet.specs.Model.MonitorRecord.{monitor_at}
use Rattle.sheet.specs.Model.Reader.{reading}
use Rattle.sheet.specs.Laws.Turns.{offset, upto, Chain, chain_of, placed_at, offset_up}
use Rattle.sheet.specs.Laws.Judged.{JudgedNumbers, Literals, Role, Body, head_judged, monitor_facts}
use Rattle.sheet.specs.Laws.Placed.{length_monitors, monitor_is, length_accept, length-rows, accept_at, length-row, next_at_lem, accept_is, rows_are}
use Rattle.sheet.specs.declared.layout.Monitor.{Monitor}
use Rattle.sheet.specs.declared.layout.Sheet.{Sheet}

-- ---- the head

-- the literals of a head's layout are the bytes after its five numbers
pub literal_is : (s : List ℕ) (j : ℕ) → j < outputs_at s 4 → outputs_at s 4 ≤ max_outputs
    → get_or (head_sheet s 4).literals j 0 ≡ get_or s (9 + j) 0
unfolding head_sheet literal_at
literal_is s zero h m = rw (lt-ltb 0 (outputs_at s 4) h)
literal_is s (suc zero) h m = rw (lt-ltb 1 (outputs_at s 4) h)
literal_is s (suc (suc zero)) h m = rw (lt-ltb 2 (outputs_at s 4) h)
literal_is s (suc (suc (suc j))) h m = absurd (omega arith)

literal_at_lem : (s : List ℕ) (k j : ℕ) → j < outputs_at s 4 → outputs_at s 4 ≤ max_outputs
    → get_or (decoded s (upto s k)).literals j 0 ≡ get_or s (9 + j) 0
unfolding decoded upto
literal_at_lem s k j h m = get_d_tab (outputs_at s 4) (λ i. get_or (head_sheet s 4).literals i 0) j 0 h ∙ literal_is s j h m

head_ok_lem : (s : List ℕ) (k size : ℕ) → Bytes s → JudgedNumbers (mode_at s 4) (site_at s 4) (outputs_at s 4) (matching_at s 4) size
    → Literals s (literals_from 4) (outputs_at s 4) → HeadOk (decoded s (upto s k))
unfolding decoded upto
head_ok_lem s k size b n l =
    record {
      mode = n.mode_most;
      site = n.site_most;
      outputs_least = n.outputs_least;
      outputs_most = n.outputs_most;
      inputs = n.inputs;
      lines = n.lines;
      matching_byte = b 8;
      matching = n.unmatched;
      literals = length-tab (outputs_at s 4) (λ i. get_or (head_sheet s 4).literals i 0);
      literal_byte = λ j h. rw (literal_at_lem s k j h n.outputs_most) (l.byte j h);
      literal_line = λ j h. rw (literal_at_lem s k j h n.outputs_most) (l.line j h);
      literal_once = λ i j u h e. l.once i j u h
          (rw (literal_at_lem s k i (omega arith) n.outputs_most, literal_at_lem s k j h n.outputs_most) at e);
    }

horizon_ok_lem : (s : List ℕ) (k : ℕ) → Horizon (guard_lines (mode_at s 4) (site_at s 4) (outputs_at s 4)) (horizon_at s 4)
    → HorizonOk (decoded s (upto s k))
unfolding decoded upto
horizon_ok_lem s k h = record { most = h.most; product_most = h.product_most }

-- the head's bytes
head_bytes : (s : List ℕ) (k : ℕ) → Bytes s → kind_at s 0 ≡ 1 → JudgedNumbers (mode_at s 4) (site_at s 4) (outputs_at s 4) (matching_at s 4)
    (size_at s 0)
    → encode_head (decoded s (upto s k)) ≡ part s 0 (offset s 0)
unfolding encode_head decoded upto offset
head_bytes s k b e n =
    let lits : tab (outputs_at s 4) (λ j. get_or (head_sheet s 4).literals j 0) ≡ part s 9 (outputs_at s 4) =
    unfold part in tab_ext (outputs_at s 4) (λ j. get_or (head_sheet s 4).literals j 0) (λ j. get_or s (9 + j) 0)
    (λ j h. literal_is s j h n.outputs_most) in
    let five : part s 4 5 ≡ mode_at s 4 ∷ site_at s 4 ∷ outputs_at s 4 ∷ horizon_at s 4 ∷ matching_at s 4 ∷ [] = unfold part tab in refl in
    rw (
      lits,
      n.size_is,
      part-add s 0 4 (5 + outputs_at s 4),
      part-add s 4 5 (outputs_at s 4),
      header_there s 0 (5 + outputs_at s 4) 1 b
          n.size_is e,
      five,
    )

-- ---- a monitor

-- the numbers of a monitor's place, and the bytes there, in bounds
record PlaceOk (s : List ℕ) (h : Sheet) (m : Monitor) : Type 0 where
  role : Role h.mode m.role m.weight
  weight_byte : m.weight < 256
  states_least : 1 ≤ m.states
  states_most : m.states ≤ max_monitor_states
  start : m.start < m.states
  accept : (q : ℕ) → q < m.states → get_or s (m.accept + q) 0 ≤ 1
  next : (k : ℕ) → k < m.states * width h m → get_or s (m.rows + k) 0 < m.states

place_ok : (s : List ℕ) (h : Sheet) (at size : ℕ) → Bytes s → Role h.mode (role_at s at) (weight_at s at)
    → Body s at (letters_read (role_at s at) h.site h.outputs) size → PlaceOk s h (monitor_at s at)
unfolding monitor_at
place_ok s h at size b r y =
    record {
      role = r;
      weight_byte = b (at + 1);
      states_least = y.states_least;
      states_most = y.states_most;
      start = y.start;
      accept = y.accept;
      next = y.next;
    }

monitor_ok_lem : (s : List ℕ) (h : Sheet) (m : Monitor) → PlaceOk s h m → MonitorOk (decoded s h) (automaton s h m)
unfolding decoded automaton
monitor_ok_lem s h m p =
    let n : length (automaton s h m).accept ≡ m.states = length_accept s h m in
    record {
      role = p.role.role_most;
      limit = p.role.limit;
      weight_byte = p.weight_byte;
      soft = p.role.soft;
      unweighted = p.role.unweighted;
      states_least = omega (arith, p.states_least);
      states_most = omega (arith, p.states_most);
      start = omega (arith, p.start);
      accept = λ q l. let u : q < m.states = omega arith in omega (arith, accept_at s h m q u, p.accept q u);
      rows = length-rows s h m ∙ sym n;
      row = λ q l. length-row s h m q (omega arith);
      next = λ q l u v.
          let w : q < m.states = omega arith in
          omega (arith, next_at_lem s h m q l w v, p.next (q * width h m + l) (digits_lt w v));
    }

part_four : (s : List ℕ) (at : ℕ) → part s at monitor_numbers ≡ role_at s at ∷ weight_at s at ∷ states_at s at ∷ first_at s at ∷ []
unfolding part tab
part_four s at = rw add-zero

part_body : (s : List ℕ) (at n w : ℕ) → part s at (4 + (4 + n + n * w))
    ≡ part s at 4 ++ (part s (at + 4) 4 ++ (part s (at + 4 + 4) n ++ part s (at + 4 + 4 + n) (n * w)))
part_body s at n w =
    rw (part-add s at 4 (4 + n + n * w), add_assoc 4 n (n * w), part-add s (at + 4) 4 (n + n * w), part-add s (at + 4 + 4) n (n * w))

-- the monitor's bytes
monitor_bytes : (s : List ℕ) (h : Sheet) (at size : ℕ) → Bytes s → size_at s at ≡ size → kind_at s at ≡ 2
    → Body s (body_at at) (letters_read (role_at s (body_at at)) h.site h.outputs) size
    → encode_monitor (decoded s h) (automaton s h (monitor_at s (body_at at))) ≡ part s at (4 + size)
unfolding encode_monitor decoded automaton monitor_at
monitor_bytes s h at size b e f y =
    let m : Monitor = monitor_at s (body_at at) in
    let n : ℕ = states_at s (body_at at) in
    let w : ℕ = letters_read (role_at s (body_at at)) h.site h.outputs in
    rw (
      length_accept s h m,
      rows_are s h m,
      accept_is s h m,
      y.size_is,
      part_body s at n w,
      part_four s (at + 4),
      header_there s at (4 + n + n * w) 2 b (e ∙ y.size_is) f,
    )

-- ---- the whole sheet

module _ (s : List ℕ) (b : Bytes s) (k : ℕ) (c : Chain s k) where
  body : (j : ℕ) → j < k
      → Role (mode_at s 4) (role_at s (body_at (offset s j))) (weight_at s (body_at (offset s j)))
      × Body s (body_at (offset s j)) (letters_read (role_at s (body_at (offset s j))) (site_at s 4) (outputs_at s 4)) (size_at s (offset s j))
  unfolding upto
  body j l = monitor_facts s (upto s j).mode (upto s j).site (upto s j).outputs (body_at (offset s j)) (size_at s (offset s j))
      (c.turn j l).ok

  monitor_at_lem : (j : ℕ) → j < k → monitor_of (decoded s (upto s k)) j ≡ automaton s (upto s k) (monitor_at s (body_at (offset s j)))
  unfolding upto
  monitor_at_lem j l = monitor_is s (upto s k) j l ∙ rw (placed_at s k j c.count l)

  sheet_ok : SheetOk (decoded s (upto s k))
  unfolding upto
  sheet_ok =
      let f : JudgedNumbers (mode_at s 4) (site_at s 4) (outputs_at s 4) (matching_at s 4) (size_at s 0)
      × Literals s (literals_from 4) (outputs_at s 4) = head_judged s (size_at s 0) c.head in
      let n : length (decoded s (upto s k)).monitors ≡ k = length_monitors s (upto s k) in
      record {
        head = head_ok_lem s k (size_at s 0) b f.0 f.1;
        horizon = horizon_ok_lem s k (horizon_facts (guard_lines (mode_at s 4) (site_at s 4) (outputs_at s 4)) (horizon_at s 4) c.horizon);
        count = omega (arith, c.count);
        monitor = λ j l.
            let u : j < k = omega arith in
            rw (monitor_at_lem j u)
            (monitor_ok_lem s (upto s k) (monitor_at s (body_at (offset s j)))
            (place_ok s (upto s k) (body_at (offset s j)) (size_at s (offset s j)) b (body j u).0 (body j u).1));
      }

  block : (j : ℕ) → j < k
      → encode_monitor (decoded s (upto s k)) (monitor_of (decoded s (upto s k)) j) ≡ part s (offset s j) (4 + size_at s (offset s j))
  unfolding upto
  block j l =
      rw (monitor_at_lem j l)
      (monitor_bytes s (upto s k) (offset s j) (size_at s (offset s j)) b refl (c.turn j l).kind (body j l).1)

  blocks : (j : ℕ) → j ≤ k
      → encode_head (decoded s (upto s k)) ++ cat j (λ i. encode_monitor (decoded s (upto s k)) (monitor_of (decoded s (upto s k)) i))
      ≡ part s 0 (offset s j)
  unfolding cat offset
  blocks zero l = rw append-nil (head_bytes s k b c.kind (head_judged s (size_at s 0) c.head).0)
  blocks (suc j) l =
      let d : Decoded = decoded s (upto s k) in
      sym (append_assoc (encode_head d) (cat j (λ i. encode_monitor d (monitor_of d i))) (encode_monitor d (monitor_of d j)))
      ∙ ap₂ ◌++◌ (blocks j (omega arith)) (block j l)
      ∙ rw (add_assoc (offset s j) 4 (size_at s (offset s j)), part-add s 0 (offset s j) (4 + size_at s (offset s j)), zero-add (offset s j))

  ends_at : (j : ℕ) → j < k → end_at s (offset s j) ≤ length s
  unfolding offset
  ends_at j l =
      let m : suc j + (k - suc j) ≡ k = omega arith in
      let up : offset s (suc j) + (k - suc j) ≤ offset s k = rw m at (offset_up s (suc j) (k - suc j)) in
      omega (arith, c.ends)

  -- its layout can be followed
  fits : Fits s (upto s k)
  unfolding upto monitor_at
  fits =
      record {
        ok = sheet_ok;
        count = c.count;
        inputs = refl;
        accept = λ j l. rw (placed_at s k j c.count l) (omega (arith, ends_at j l, (body j l).1.size_is));
        rows = λ j l. rw (placed_at s k j c.count l) (omega (arith, ends_at j l, (body j l).1.size_is));
      }

  -- and gives back its bytes
  same : encode (decoded s (upto s k)) ≡ s
  unfolding encode upto
  same = rw (length_monitors s (upto s k)) (blocks k (omega arith) ∙ ap (λ (n : ℕ). part s 0 n) c.ends ∙ part-whole s)

-- an accepted sheet's layout stands for a sheet in bounds, inside the bytes
pub accepted_fits : (s : List ℕ) → Bytes s → (h : Sheet) → reading s ≡ Ok h → Fits s h
accepted_fits s b h e =
    let r = chain_of s (given e) in
    let q : h ≡ upto s r.0 = ok_inj (sym e ∙ r.2) in
    rw q (fits s b r.0 r.1)

-- and its bytes are those of that sheet
pub accepted-same : (s : List ℕ) → Bytes s → (h : Sheet) → reading s ≡ Ok h → encode (decoded s h) ≡ s
accepted-same s b h e =
    let r = chain_of s (given e) in
    let q : h ≡ upto s r.0 = ok_inj (sym e ∙ r.2) in
    rw q (same s b r.0 r.1)
