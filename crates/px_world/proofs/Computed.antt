-- What the definitions compute to for the sessions worked by hand.
use Rattle.std.proofs.Common.{◌≡◌, refl}
use Rattle.px_tag.specs.Item.{number, text, spec, channel_map, channel_volumes, volume, flag, usec, proplist}
use Rattle.px_frame.specs.Descriptor.{descriptor_in}
use Rattle.px_frame.specs.Meaning.{meaning_of}
use Rattle.px_state.specs.Events.{step_events}
use Rattle.px_world.specs.World.{new_world}
use Rattle.px_session.specs.Output.{sent_record, closed_record, played_record, stopped_record}
use Rattle.px_world.specs.Output.{AreAdmitted, output_of}
use Rattle.px_world.specs.Worked.{small_header, small_events, small_output, small_world, moving_events, small_track, stopping_header, stopping_events, stopping_output}
use Rattle.px_world.specs.Continuity.{track_by}

pub small-admitted : AreAdmitted (new_world small_header) small_events
unfolding meaning_of descriptor_in
small-admitted = (refl, (refl, (refl, (refl, (refl, (refl, (refl, tt)))))))

pub small-given : output_of small_header small_events ≡ small_output
unfolding meaning_of descriptor_in sent_record closed_record played_record step_events number text spec channel_map channel_volumes volume flag usec proplist
small-given = refl

pub moving-admitted : AreAdmitted small_world moving_events
moving-admitted = (refl, (refl, (refl, (refl, (refl, (refl, (refl, tt)))))))

pub small-tracked : track_by small_world moving_events 3 ≡ small_track
small-tracked = refl

pub stopping-admitted : AreAdmitted (new_world stopping_header) stopping_events
stopping-admitted = (refl, (refl, (refl, tt)))

pub stopping-given : output_of stopping_header stopping_events ≡ stopping_output
unfolding stopped_record step_events number text spec channel_map channel_volumes volume flag usec proplist
stopping-given = refl
