use Rattle.std.proofs.Common.{◌++◌}
use Rattle.rewriting.specs.Temporaries.{temporaries, noted}
use Rattle.rewriting.proofs.Noting.{notes_notes}
use Rattle.rewriting.proofs.Rewriting.temporaries.Goals as goal

pub returns-clause-value : goal.returns-clause-value
unfolding temporaries
returns-clause-value c =
    let p = c.args.page.now in
    let a = rw c.first_read.ensures at c.temporary.ensures.value in
    let b = rw (c.second_read.ensures, c.temporary.ensures.notes.next) at c.temporary-2.ensures.value in
    let d = rw (c.written.ensures, c.temporary-2.ensures.notes.next, c.temporary.ensures.notes.next) at c.temporary-3.ensures.value in
    rw (← a, ← b, ← d)

pub returns-clause-notes : goal.returns-clause-notes
returns-clause-notes c =
    let a = c.temporary.ensures.notes in
    let b = c.temporary-2.ensures.notes in
    let d = c.temporary-3.ensures.notes in
    let bd = notes_notes c.temporary.new.page c.temporary-2.new.page c.temporary-3.new.page _ _ b d in
    notes_notes c.args.page.now c.temporary.new.page c.temporary-3.new.page (noted c.temporary.result) (noted c.temporary-2.result ++ noted c.temporary-3.result) a bd
