use Rattle.std.proofs.Common.{◌≡◌, ◌≤◌, map, length, arith}
use lib.ListN.{length-map}
use Rattle.compiling.specs.Blocks.{flat, assembled}
use Rattle.compiling.specs.Emit.{code_block}
use Rattle.layout.proofs.Holding.{holds_assembled}
use Rattle.emission.specs.Emission.{register_in}
use Rattle.emission.proofs.Coding.{code_few}
use Rattle.emission.proofs.emit.Goals as goal

pub returns : goal.returns
returns c =
    let d = c.args.draft.now in
    let f = code_block (register_in d) in
    let rows = d.rows in
    let short : length rows ≤ 512 = d.few.0 in
    let blocks : length (map f rows) ≤ 512 = simp length-map short in
    let few : length (flat (map f rows)) ≤ 512 = omega (arith, code_few (register_in d) rows) in
    let code : c.moved-next.result ≡ assembled (map f rows) = holds_assembled _ _ _ (map f rows) c.lay_out.ensures few blocks c.moved-next.ensures.rows in
    cc
