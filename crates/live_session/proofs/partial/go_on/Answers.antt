use Rattle.std.proofs.Common.{◌-◌, ◌∙◌, ap}
use Rattle.live_session.proofs.Courses.{front_if_ok}
use Rattle.live_session.proofs.partial.go_on.Goals as goal

pub returns : goal.returns
returns c =
    front_if_ok c.extend_from_slice.result c.args.kept.now.items c.extend_from_slice.new.self.items c.args.bytes.now
    c.saturating_sub-room.result c.min.result
    (c.saturating_sub-room.ensures ∙ ap (λ n. 257 - n) (c.len.ensures ∙ c.args.kept.now.ok.0)) c.min.ensures c.extend_from_slice.ensures.items
