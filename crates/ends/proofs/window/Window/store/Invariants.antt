use Rattle.std.proofs.Common.{◌≡◌, ◌*◌, ◌≤◌, length, drop}
use Rattle.ends.proofs.Rows.{Part}
use Rattle.ends.proofs.window.Window.store.Given as goal

abbrev pub invariant-loop-i : goal.invariant-loop-i
invariant-loop-i l =
    let t = l.tile-inside in
    let at = l.i-iterator in record {
      square : length l.samples ≡ t.edge * t.edge;
      whole : length l.plane ≡ t.size.width * t.size.height;
      wide : at.iter.size ≡ t.edge;
      rest : at.iter.rest.now ≡ drop (at.count * t.edge) l.samples;
      count : at.count ≤ t.edge;
      part : Part (record { size = t.size; x = t.x; y = t.y; edge = t.edge }) l.samples l.initial.plane l.plane at.count;
    }
