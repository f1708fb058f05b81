-- A packet that spells a command means it.
use Rattle.std.proofs.Common.{◌≡◌, ℕ, ◌<◌, ◌^◌, List, [], ◌++◌, length, Ok, refl, ap, ◌∙◌, append_assoc, lit<}
use Rattle.std.specs.List.{flat_map, AllByRecursion}
use Rattle.px_tag.specs.Item.{number, text, spec, channel_map, proplist}
use Rattle.px_tag.specs.Reading.{end_at}
use Rattle.px_tag.proofs.Items.{number_law, text_law}
use Rattle.px_tag.proofs.Parts.{spec_law, map_law}
use Rattle.px_tag.proofs.Written.{list_again}
use Rattle.px_cmd.specs.Field.{spelling}
use Rattle.px_cmd.specs.Law.{IsField, packet_of}
use Rattle.px_cmd.specs.Packet.{head_at}
use Rattle.px_scache.specs.declared.command.Request.{Request}
use Rattle.px_scache.specs.declared.command.Request.TheVariants.{Upload, Delete, Finish, Play, Remove}
use Rattle.px_scache.specs.Command.{number_of, fields_of, request_at, meant}

head_again : (command tag size : ℕ) (behind : List ℕ) → command < 2 ^ 32 → tag < 2 ^ 32 → head_at (record { size = size; rest = number command ++ number tag ++ behind }) ≡ Ok ((command, tag), record { size = size; rest = behind })
unfolding head_at
head_again command tag size behind low high =
    ap (λ (r : List ℕ). head_at (record { size = size; rest = r })) (append_assoc (number command) (number tag) behind) ∙ rw (number_law.again command size (number tag ++ behind) low, number_law.again tag size behind high) refl

fields_again : (r : Request) (size : ℕ) → AllByRecursion IsField (fields_of r) → request_at (number_of r) (record { size = size; rest = flat_map spelling (fields_of r) }) ≡ Ok r
unfolding request_at end_at
fields_again (Upload a) size (name, (format, (positions, (bytes, (list, end))))) =
    rw (
      text_law.again a.name size (spec a.spec ++ (channel_map a.map ++ (number a.length ++ (proplist a.list ++ [])))) name,
      spec_law.again a.spec size (channel_map a.map ++ (number a.length ++ (proplist a.list ++ []))) format,
      map_law.again a.map size (number a.length ++ (proplist a.list ++ [])) positions,
      number_law.again a.length size (proplist a.list ++ []) bytes,
      list_again a.list size [] list,
    ) refl
fields_again (Delete stream) size (fits, end) = rw (number_law.again stream size [] fits) refl
fields_again (Finish stream) size (fits, end) = rw (number_law.again stream size [] fits) refl
fields_again (Play a) size (index, (sink, (volume, (name, (list, end))))) =
    rw (
      number_law.again a.sink.index size (text a.sink.name ++ (number a.volume ++ (text a.name ++ (proplist a.list ++ [])))) index,
      text_law.again a.sink.name size (number a.volume ++ (text a.name ++ (proplist a.list ++ []))) sink,
      number_law.again a.volume size (text a.name ++ (proplist a.list ++ [])) volume,
      text_law.again a.name size (proplist a.list ++ []) name,
      list_again a.list size [] list,
    ) refl
fields_again (Remove name) size (is, end) = rw (text_law.again name size [] is) refl

number_few : (r : Request) → number_of r < 2 ^ 32
number_few (Upload a) = lit< tt
number_few (Delete stream) = lit< tt
number_few (Finish stream) = lit< tt
number_few (Play a) = lit< tt
number_few (Remove name) = lit< tt

pub request_again : (tag : ℕ) (r : Request) → tag < 2 ^ 32 → AllByRecursion IsField (fields_of r) → meant (packet_of (number_of r) tag (fields_of r)) ≡ Ok r
unfolding meant
request_again tag r low each =
    let packet = packet_of (number_of r) tag (fields_of r) in
    rw (head_again (number_of r) tag (length packet) (flat_map spelling (fields_of r)) (number_few r) low) (fields_again r (length packet) each)
