use Rattle.std.proofs.Common.{◌≡◌, ℕ, List, OnOk, OnErr, subst}
use Rattle.px_ends.specs.Visible.{after_adding}
use Rattle.px_ends.specs.Whole.{AddsFront}
use Rattle.px_state.specs.Effect.{IsSendable}
use Rattle.px_app.proofs.RecordLaws.{sent_is, closed_is, sendable_fits}
use Rattle.px_app.proofs.records.write_effect_record.Goals as goal

pub write_effect-requires : goal.write_effect-requires
write_effect-requires g c = sendable_fits c.in-Sent.conn c.in-Sent.packet c.bytes-bytes.result.now c.bytes-bytes.ensures (subst IsSendable c.in-Sent.is c.requires)

pub returns-in-Sent-clause-ok : goal.returns-in-Sent-clause-ok
returns-in-Sent-clause-ok g c =
    rw c.in-Sent.is (subst (λ (bytes : List ℕ). OnOk c.write_effect.result (g.K.Sink.held c.write_effect.new.out ≡ after_adding (g.K.Sink.held c.args.output.now) bytes))
    (sent_is c.in-Sent.conn c.in-Sent.packet c.bytes-bytes.result c.bytes-bytes.ensures) c.write_effect.ensures.ok)

pub returns-in-Sent-clause-err : goal.returns-in-Sent-clause-err
returns-in-Sent-clause-err g c =
    rw c.in-Sent.is (subst (λ (bytes : List ℕ). OnErr c.write_effect.result (AddsFront bytes (g.K.Sink.held c.args.output.now) (g.K.Sink.held c.write_effect.new.out)))
    (sent_is c.in-Sent.conn c.in-Sent.packet c.bytes-bytes.result c.bytes-bytes.ensures) c.write_effect.ensures.err)

pub returns-in-Closed-clause-ok : goal.returns-in-Closed-clause-ok
returns-in-Closed-clause-ok g c =
    rw c.in-Closed.is (subst (λ (bytes : List ℕ). OnOk c.write_effect-in-Closed.result (g.K.Sink.held c.write_effect-in-Closed.new.out ≡ after_adding (g.K.Sink.held c.args.output.now) bytes))
    (closed_is c.in-Closed.conn c.in-Closed.reason c.code.result c.in-Closed.fault c.in-Closed.at c.code.ensures) c.write_effect-in-Closed.ensures.ok)

pub returns-in-Closed-clause-err : goal.returns-in-Closed-clause-err
returns-in-Closed-clause-err g c =
    rw c.in-Closed.is (subst (λ (bytes : List ℕ). OnErr c.write_effect-in-Closed.result (AddsFront bytes (g.K.Sink.held c.args.output.now) (g.K.Sink.held c.write_effect-in-Closed.new.out)))
    (closed_is c.in-Closed.conn c.in-Closed.reason c.code.result c.in-Closed.fault c.in-Closed.at c.code.ensures) c.write_effect-in-Closed.ensures.err)
