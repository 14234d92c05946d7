use Rattle.std.proofs.Common.{◌≡◌, ℕ, ◌≤◌, true, is_ok, length, take, sym, refl, ap, ◌∙◌, arith}
use Rattle.std.proofs.lemmas.List.{length-take-le}
use Rattle.std.proofs.lemmas.Bool.{le-leb}
use Rattle.sets.specs.Words.{members, sets_of}
use Rattle.rounds.specs.Select.{selected}
use Rattle.rounds.specs.Round.{hoped_for}
use Rattle.graphs.specs.Graphs.{classes_of}
use Rattle.interference.specs.Building.{Built}
use Rattle.coalescing.specs.Merges.{graph_of}
use Rattle.allocation.proofs.Emptying.{drop_later}
use Rattle.allocation.proofs.Showing.{graph_built, shown}
use Rattle.allocation.proofs.Round.colour.Goals as goal

pub returns : goal.returns
returns g c =
    let m = g.F.RegisterFile.model c.args.self.now.file.now in
    let v = c.args.self.now.variables.now in
    let rows = c.args.self.now.lines.rows.now in
    let live = c.interfere.new.live in
    let edges = c.interfere.new.edges in
    let hard = c.interfere.new.hard in
    let merged = c.coalesce-merged.result in
    let all : length rows ≤ length c.args.live.now = omega (arith, c.args.self.now.lines.few, c.requires.live) in
    let yes : is_ok c.interfere.result ≡ true = c.interfere.ensures.room ∙ le-leb (length rows) (length c.args.live.now) all in
    let built : Built rows c.args.live.now live c.args.edges.now edges c.args.hard.now hard = rw yes at c.interfere.ensures.answer in
    let few : v.count ≤ 448 = v.few.1 in
    let classes : length (classes_of v) ≡ v.count = length-take-le v.count v.classes (omega (arith, few, v.whole.0)) in
    let graph = graph_of v merged c.coalesce-merged.new.edges c.coalesce-merged.new.hard in
    let order = take c.simplify-removals.result.count c.simplify-removals.result.order in
    let registers = c.select-registers.result in
    let drawn = graph_built m v.source (classes_of v) (members c.args.self.now.nodes) rows v.count (length c.args.edges.now) (length c.args.hard.now) (sets_of edges) (sets_of hard) graph
    (sym classes) c.requires.edges c.requires.hard built.edges built.hard c.coalesce-merged.ensures in
    let known : c.as_slice.result.now ≡ classes_of v = c.as_slice.ensures in
    let removed : c.as_slice-order.result.now ≡ order = c.as_slice-order.ensures in
    let long : length c.as_slice.result.now ≡ v.count = ap length known ∙ classes in
    let taken : take v.count registers ≡ selected m graph order =
    ap (λ (n : ℕ). take n registers) (sym long) ∙ c.select-registers.ensures (omega (arith, long, few)) graph (sym known) refl ∙ ap (selected m graph) removed in
    let size : length (take v.count registers) ≡ v.count = length-take-le v.count registers (omega (arith, few)) in
    let out = rw size at (c.spilled.ensures (omega (arith, size, few))) in
    record {
      shows = shown m v.source (classes_of v) (members c.args.self.now.nodes) rows v.count _ graph order (sym classes) few drawn (c.simplify-removals.ensures graph refl refl refl refl) refl taken out (λ w l. c.hoped.ensures w l ∙ ap (λ rs. hoped_for rs w) removed);
      past = drop_later (length rows) 512 live c.args.live.now c.args.self.now.lines.few built.past;
    }
