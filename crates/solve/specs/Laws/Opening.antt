-- A call without a result answers no bytes, which fit into every result: its promise is the order of the refusals, and it never answers 9.
-- Assumes nothing.
use Rattle.std.specs.Prelude.{◌≡◌, Bool, List, ℕ, Result}
use Rattle.std.proofs.Common.{◌∙◌, arith}
use Rattle.records.specs.Meaning.Numbers.{Bytes}
use Rattle.sheet.specs.Meaning.Grounds.{verdict_number}
use Rattle.sheet.specs.declared.layout.Refusal.{Refusal}
use Rattle.product.specs.Meaning.Step.{first_tuple}
use Rattle.solve.specs.Meaning.Allowed.{Kept, Unrealizable}
use Rattle.solve.specs.Model.Making.{ordered_number, lost_number}
use Rattle.solve.specs.Model.Opening.{opening_number}
use Rattle.solve.specs.Laws.OrderedNumber.{opening_ordered}
use Rattle.solve.specs.Laws.RefusalOrder.{order_nine, orders_bytes, lost_stops}
use Rattle.solve.specs.Promises.RefusalOrder.{InOrder}
use Rattle.solve.specs.Promises.Opening.{OpensSheet}

pub opens_sheet : {T : Type 0} {work : Bool} {s : List ℕ} (v : Result T Refusal) → Bytes s → verdict_number v ≡ opening_number work s
    → OpensSheet work s (verdict_number v)
opens_sheet {work = work} {s = s} v bytes e =
    record {
      model = e;
      in_bounds = order.in_bounds;
      short_work = order.short_work;
      bad_sheet = order.bad_sheet;
      cause = order.cause;
      too_many = order.too_many;
      unrealizable = order.stopped;
      never_nine = λ n. omega (arith, order_nine lost_stops (λ d. 0) work s 0 (verdict_number v) due n);
      exactly = (
        λ z. let x = order.exactly.0 z in (x.0, record { sheet = x.1; few = x.2; realizable = x.3 }, x.4),
        λ y. order.exactly.1 (y.0, y.1.sheet, y.1.few, y.1.realizable, y.2, omega arith),
      );
    }
  where
    due : verdict_number v ≡ ordered_number lost_number (λ d. 0) work s 0
    due = e ∙ opening_ordered work s

    order : InOrder 8 Unrealizable (λ d. Kept d (first_tuple d)) (λ d. 0) work s 0 (verdict_number v)
    order = orders_bytes lost_stops (λ d. 0) work s 0 (verdict_number v) due bytes
