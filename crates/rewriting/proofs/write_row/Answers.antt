use Rattle.rewriting.specs.Temporaries.{loaded, stored, renamed}
use Rattle.std.proofs.Common.{◌≡◌, [], ◌∷◌, ◌++◌, take, rules}
use Rattle.rewriting.proofs.Noting.{pushed_four}
use Rattle.rewriting.proofs.write_row.Goals as goal

pub returns-clause-rows : goal.returns-clause-rows
returns-clause-rows c =
    let t = c.args.temporaries in
    let r = c.args.row in
    let last : c.store.new.layout.rows ≡ take 512 (c.push.new.self.rows ++ stored r.weight t.d) = search rules in
    pushed_four 512 c.args.layout.now.rows (loaded r.weight t.a) (loaded r.weight t.b) (renamed t r ∷ []) (stored r.weight t.d) c.load.ensures.rows c.load-2.ensures.rows (rw c.renamed_row.ensures at c.push.ensures.rows) last
