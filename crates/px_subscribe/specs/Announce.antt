-- Who is notified of events.
use Rattle.std.specs.Prelude.{cond, List, [], ◌∷◌, flat_map}
use Rattle.px_outcome.specs.declared.sending.Sending.{Sending}
use Rattle.px_subscribe.specs.declared.announce.Subscriber.{Subscriber}
use Rattle.px_subscribe.specs.declared.event.Event.{Event}
use Rattle.px_subscribe.specs.Event.{message_of, hears}

-- a subscriber is notified of an event whose facility its mask has
abbrev pub notified_to : Event → Subscriber → List Sending
notified_to e s = cond (hears s.mask e.facility) (record { conn = s.conn; packet = message_of e } ∷ []) []

-- each of them, in order
abbrev pub announced : List Subscriber → Event → List Sending
announced subscribers e = flat_map (notified_to e) subscribers

-- event after event
abbrev pub announced_all : List Subscriber → List Event → List Sending
announced_all subscribers events = flat_map (announced subscribers) events
