use Rattle.std.proofs.Common.{◌≡◌, length, refl, arith}
use Rattle.std.proofs.lemmas.Result.{err_from_is_err_and}
use Rattle.interference.proofs.Later.{live_before_lem, live_past, room}
use Rattle.interference.proofs.interfere.Goals as goal

pub returns-in_err-solve : goal.returns-in_err-solve
returns-in_err-solve c =
    let s = c.in_err-solve.ensures in
    let p = err_from_is_err_and c.from_residual.result c.from_residual.ensures.1 in
    rw p.1 record { room = room c.args.lines.rows.now _ _ (length c.args.edges.now) s.room; answer = (s.answer.0, s.answer.1, refl) }

pub build-requires : goal.build-requires
build-requires c = live_before_lem c.args.lines.rows.now c.solve.new.facts c.in_ok-solve.ensures.answer.facts

pub returns : goal.returns
returns c =
    let rows = c.args.lines.rows.now in
    let s = c.in_ok-solve.ensures in
    let edges : length c.build.new.edges ≡ length c.args.edges.now = omega arith in
    let hard : length c.build.new.hard ≡ length c.args.hard.now = omega arith in
    record {
      room = room rows _ _ (length c.args.edges.now) s.room;
      answer = record {
        live = live_before_lem rows c.solve.new.facts s.answer.facts;
        past = live_past rows c.args.live.now c.solve.new.facts s.answer.past;
        edges = rw edges at c.build.ensures.edges;
        hard = rw hard at c.build.ensures.hard;
      };
    }
