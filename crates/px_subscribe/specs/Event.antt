-- The numbers of events (PulseAudio: `pa_subscription_event_type_t` and `pa_subscription_mask_t` of pulse/def.h).
use Rattle.std.specs.Prelude.{ℕ, ◌+◌, ◌/◌, ◌%◌, Bool, nat_eq, List, ◌++◌}
use Rattle.px_tag.specs.Item.{number}
use Rattle.px_reply.specs.Front.{message}
use Rattle.px_subscribe.specs.declared.event.Facility.{Facility}
use Rattle.px_subscribe.specs.declared.event.Facility.TheVariants.{Sink, Input, Client, Server}
use Rattle.px_subscribe.specs.declared.event.Kind.{Kind}
use Rattle.px_subscribe.specs.declared.event.Kind.TheVariants.{New, Change, Remove}
use Rattle.px_subscribe.specs.declared.event.Event.{Event}

abbrev pub facility_code : Facility → ℕ
facility_code Sink = 0
facility_code Input = 2
facility_code Client = 5
facility_code Server = 7

abbrev pub kind_code : Kind → ℕ
kind_code New = 0
kind_code Change = 0x10
kind_code Remove = 0x20

-- facility and kind together
abbrev pub number_of : Event → ℕ
number_of e = facility_code e.facility + kind_code e.kind

-- SUBSCRIBE_EVENT
abbrev pub message_of : Event → List ℕ
message_of e = message 66 ++ number (number_of e) ++ number e.index

-- a mask has the facility's bit: 1, 4, 32 or 128
abbrev pub hears : ℕ → Facility → Bool
hears mask Sink = nat_eq (mask % 2) 1
hears mask Input = nat_eq (mask / 4 % 2) 1
hears mask Client = nat_eq (mask / 32 % 2) 1
hears mask Server = nat_eq (mask / 128 % 2) 1
