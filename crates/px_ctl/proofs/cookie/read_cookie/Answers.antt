use Rattle.std.proofs.Common.{rules, ◌≡◌, length}
use Rattle.px_ctl.proofs.Reading.{cookie_in}
use Rattle.px_ctl.proofs.cookie.read_cookie.Goals as goal

pub returns-in-Ended-clause-read : goal.returns-in-Ended-clause-read
returns-in-Ended-clause-read g c =
    let size : length c.fill.new.buffer ≡ 257 = search rules in (
      cookie_in c.in-Ended.length c.fill.new.buffer (g.S.Source.left c.args.input.now) (g.S.Source.left c.fill.new.source) c.if-length-eq-COOKIE.true size
          c.in-Ended.ensures.bytes.0 c.in-Ended.ensures.bytes.2,
      c.in-Ended.ensures.count,
    )
