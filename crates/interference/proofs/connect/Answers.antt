use Rattle.std.proofs.Common.{◌≡◌, ℕ, ◌<◌, true, false, ltb, sym, ap, ◌∙◌, ap₂, arith}
use Rattle.std.proofs.lemmas.Bool.{lt-ltb}
use Rattle.sets.specs.Sets.{single, minus, union, when}
use Rattle.rows.specs.declared.Shape.{Shape}
use Rattle.rows.specs.Rows.{shape, copies, reads, set_of}
use Rattle.rows.proofs.Fields.{members_empty}
use Rattle.interference.proofs.Later.{neighbours_written, neighbours_unwritten}
use Rattle.interference.proofs.connect.Goals as goal

alone : (d x none : ℕ) → d < 448 → none ≡ 0 → x ≡ union none (when (ltb d 448) (single d)) → x ≡ single d
alone d x none small e h = rw (e, lt-ltb d 448 small) at h

pub returns-then-not-writes : goal.returns-then-not-writes
returns-then-not-writes c =
    let row = c.args.row in
    let live = c.args.live in
    let none : (shape row.op).d ≡ false = sym (ap (λ (s : Shape). s.d) c.shape-shape.ensures) ∙ c.if-not-writes.true in
    record {
      edges = neighbours_unwritten (λ r. r.others) row live c.args.edges.now none;
      hard = neighbours_unwritten (λ r. r.hard) row live c.args.hard.now none;
    }

pub returns : goal.returns
returns c =
    let row = c.args.row in
    let live = c.args.live in
    let d = row.d in
    let writes : (shape row.op).d ≡ true = sym (ap (λ (s : Shape). s.d) c.shape-shape.ensures) ∙ c.if-not-writes.false in
    let one = alone d (c.with.result) (c.empty.result) (c.requires writes) (c.empty.ensures ∙ members_empty) c.with.ensures in
    let others : c.minus-others.result ≡ minus live (single d) = c.minus-others.ensures ∙ ap (minus live) one in
    let firm : c.minus-firm.result ≡ minus (minus live (single d)) (when (copies row.op) (set_of (reads row))) = c.minus-firm.ensures ∙ ap₂ minus others c.copied.ensures in
    record {
      edges = neighbours_written (λ r. r.others) row live (c.minus-others.result) c.args.edges.now c.join.new.edges (omega arith) writes others c.join.ensures;
      hard = neighbours_written (λ r. r.hard) row live (c.minus-firm.result) c.args.hard.now c.join-2.new.edges (omega arith) writes firm c.join-2.ensures;
    }
