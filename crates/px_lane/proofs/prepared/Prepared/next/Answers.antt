use Rattle.std.proofs.Common.{◌≡◌, ◌∷◌, List, map, ap, sym, ◌∙◌, subst}
use Rattle.std.specs.Prelude.{flat_map}
use Rattle.std.specs.List.{AllByRecursion}
use Rattle.px_msg.specs.declared.message.Msg.{Msg}
use Rattle.px_stream.specs.HeldStream.{HeldStream}
use Rattle.px_lane.specs.Room.{ReadyMessages}
use Rattle.px_lane.specs.Lists.{plain_message, messages_of}
use Rattle.px_lane.specs.Taking.{streams_of, BringsRoom, HasRoomLeft}
use Rattle.px_lane.proofs.Readied.{left_over}
use Rattle.px_lane.proofs.prepared.Prepared.next.Goals as goal

pub invariant_of-self : goal.invariant_of-self
invariant_of-self c =
    let d = c.self.inside in
    let m = c.in-Some.message in
    let rest : List (Msg HeldStream) = c.pop_front.new.self.items in
    let items : d.items.items ≡ m ∷ rest = c.in-Some.ensures.items in
    let brought = subst (λ (ms : List (Msg HeldStream)). AllByRecursion (BringsRoom d.room d.block_room) ms) items c.self.invariant.2 in (
      left_over (map HeldStream.stream d.streams.items) (streams_of (plain_message m)) (flat_map streams_of (messages_of rest)) (map HeldStream.stream c.ready.new.streams.items)
          (c.self.invariant.0 ∙ ap (λ (ms : List (Msg HeldStream)). flat_map streams_of (messages_of ms)) items) c.ready.ensures.streams,
      (c.ready.ensures.room d.room d.block_room c.self.invariant.1 brought.0).1,
      brought.1,
    )

pub returns-in-Some-clause-value : goal.returns-in-Some-clause-value
returns-in-Some-clause-value c =
    let d = c.self.inside in
    let m = c.in-Some.message in
    let rest : List (Msg HeldStream) = c.pop_front.new.self.items in
    let items : d.items.items ≡ m ∷ rest = c.in-Some.ensures.items in
    let brought = subst (λ (ms : List (Msg HeldStream)). AllByRecursion (BringsRoom d.room d.block_room) ms) items c.self.invariant.2 in
    let left = subst (λ (v : ReadyMessages). HasRoomLeft v.room v.block_room c.ready.result) c.self.view_is (c.ready.ensures.room d.room d.block_room c.self.invariant.1 brought.0).0 in
    (plain_message m, sym (ap (λ (v : ReadyMessages). v.messages) c.self.view_is) ∙ ap messages_of items, c.ready.ensures.ready, left)
