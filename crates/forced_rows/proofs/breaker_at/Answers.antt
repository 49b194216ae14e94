-- `forced_rows::breaker_at`: the cell lies in the table. Assumes nothing.
use Rattle.std.proofs.Common.{arith}
use Rattle.rounds.specs.Laws.CellPlaces.{CellLeads, leads_at}
use Rattle.forced_rows.proofs.breaker_at.Goals.{After-cell_at}
use Rattle.forced_rows.proofs.breaker_at.Goals as goal

found : (c : After-cell_at) → CellLeads c.args.sifted.now.table.cells.now c.args.sifted.now.dropped.now c.cell_at.result
found c =
    let s = c.args.sifted.now in
    leads_at s.table.steps (record { room = s.room; state = c.requires.state }) c.requires.input c.requires.output c.cell_at.ensures

pub offset_bounds-cells-cell_at : goal.offset_bounds-cells-cell_at
offset_bounds-cells-cell_at c = omega (arith, (found c).within)

pub bounds-cells-cell_at : goal.bounds-cells-cell_at
bounds-cells-cell_at c = (found (goal.at.bounds-cells-cell_at c).After-cell_at).within
