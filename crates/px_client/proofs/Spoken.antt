-- What the client sends is read as the commands that it means.
use Rattle.std.proofs.Common.{◌≡◌, ℕ, zero, suc, get_or, ◌+◌, ◌^◌, ◌<◌, ◌≤◌, List, [], ◌∷◌, ◌++◌, length, length-append, Ok, refl, ap, subst, ◌∙◌, lit<, arith}
use Rattle.px_frame.specs.declared.frame.Frame.{Frame}
use Rattle.px_frame.specs.declared.frame.Body.TheVariants.{Control}
use Rattle.px_frame.specs.Frame.{offset_at}
use Rattle.px_frame.specs.Reading.{IsRead, Unfinished}
use Rattle.px_frame.specs.Spelling.{AreWhole}
use Rattle.px_frame.proofs.SpellingLemmas.{no_bytes, one_more, whole-read}
use Rattle.px_tag.specs.Item.{number, channel_volumes, IsVolumes}
use Rattle.px_cmd.specs.declared.command.Command.{Command}
use Rattle.px_cmd.specs.Command.{number_of, fields_of, IsNumbered}
use Rattle.px_cmd.specs.Law.{IsCommand}
use Rattle.px_cmd.specs.Meant.{meant, command_by, command_or, IsOfVersion}
use Rattle.px_cmd.proofs.Again.{packet_again}
use Rattle.px_cmd.proofs.Meant.{again}
use Rattle.px_client.specs.declared.errand.Errand.{Errand}
use Rattle.px_client.specs.declared.errand.Errand.TheVariants.{List as list_inputs, Volume, Mute, SinkVolume, Move, Kill}
use Rattle.px_client.specs.Errand.{IsErrand, HasNumbers, packet, framed, auth_command, name_command, command_for, auth_packet, name_packet, errand_packet, packets_for, controls_from, sent_for}
use Rattle.px_client.proofs.Names.{name_is_text}
use Rattle.px_client.proofs.Sizes.{auth_some, auth_few, name_some, name_few, errand_some, errand_few}

-- ---- frames

-- a packet that fits a frame
record Fits (bytes : List ℕ) : Type 0 where
  some : 0 < length bytes
  few : length bytes ≤ 400

abbrev control : ℕ → List ℕ → Frame
control start bytes = record { at = offset_at (start + 20); body = Control bytes }

one_frame : (before : List ℕ) (frames : List Frame) (bytes : List ℕ) → AreWhole before frames → Fits bytes → AreWhole (before ++ framed bytes) (frames ++ control (length before) bytes ∷ [])
one_frame before frames bytes whole fits = one_more before frames (Control bytes) whole (fits.some, let few = fits.few in omega arith) tt

moved_to : (bytes a b c : List ℕ) (m n k l : ℕ) → m ≡ k → n ≡ l → IsRead bytes (control 0 a ∷ control m b ∷ control n c ∷ []) Unfinished → IsRead bytes (control 0 a ∷ control k b ∷ control l c ∷ []) Unfinished
moved_to bytes a b c m n k l first second read =
    subst (λ (x : ℕ). IsRead bytes (control 0 a ∷ control k b ∷ control x c ∷ []) Unfinished) second
    (subst (λ (x : ℕ). IsRead bytes (control 0 a ∷ control x b ∷ control n c ∷ []) Unfinished) first read)

from_zero : (n : ℕ) → n ≡ 0 + n
from_zero n = omega arith

three_frames : (a b c : List ℕ) → Fits a → Fits b → Fits c → IsRead (framed a ++ framed b ++ framed c) (controls_from 0 (a ∷ b ∷ c ∷ [])) Unfinished
three_frames a b c fa fb fc =
    let one : AreWhole (framed a) (control 0 a ∷ []) = one_frame [] [] a no_bytes fa in
    let two : AreWhole (framed a ++ framed b) (control 0 a ∷ control (length (framed a)) b ∷ []) = one_frame (framed a) (control 0 a ∷ []) b one fb in
    let all : IsRead (framed a ++ framed b ++ framed c) (control 0 a ∷ control (length (framed a)) b ∷ control (length (framed a ++ framed b)) c ∷ []) Unfinished =
    whole-read (framed a ++ framed b ++ framed c) (control 0 a ∷ control (length (framed a)) b ∷ control (length (framed a ++ framed b)) c ∷ [])
    (one_frame (framed a ++ framed b) (control 0 a ∷ control (length (framed a)) b ∷ []) c two fc) in
    moved_to (framed a ++ framed b ++ framed c) a b c (length (framed a)) (length (framed a ++ framed b)) (0 + length (framed a)) (0 + length (framed a) + length (framed b))
    (from_zero (length (framed a)))
    (length-append (framed a) (framed b) ∙ ap (λ (x : ℕ). x + length (framed b)) (from_zero (length (framed a))))
    all

pub sent_read : (cookie : List ℕ) (errand : Errand) → length cookie ≡ 256 → IsErrand errand → IsRead (sent_for cookie errand) (controls_from 0 (packets_for cookie errand)) Unfinished
sent_read cookie errand whole is =
    three_frames (auth_packet cookie) name_packet (errand_packet errand)
    (record { some = auth_some cookie; few = auth_few cookie whole })
    (record { some = name_some; few = name_few })
    (record { some = errand_some errand is; few = errand_few errand is })

-- ---- commands

means : (version tag : ℕ) (c : Command) → IsCommand version (number_of c) tag (fields_of c) → IsNumbered c → IsOfVersion version c → meant version (packet tag c) ≡ Ok c
unfolding meant
means version tag c is numbered of =
    ap command_by (packet_again version (number_of c) tag (fields_of c) is) ∙ ap (command_or (number_of c)) (again version c numbered of)

pub auth_means : (cookie : List ℕ) → length cookie ≡ 256 → meant 13 (auth_packet cookie) ≡ Ok (auth_command cookie)
unfolding auth_packet
auth_means cookie whole = means 13 0 (auth_command cookie) (record { known = lit< tt; tagged = lit< tt; kinds = refl; each = (lit< tt, (whole, tt)) }) tt tt

pub name_means : meant 18 name_packet ≡ Ok name_command
unfolding name_packet
name_means = means 18 1 name_command (record { known = lit< tt; tagged = lit< tt; kinds = refl; each = (refl, tt) }) tt tt

each_of : (value : ℕ) → value ≤ 0x7FFFFFFF → (k d : ℕ) → k < 1 → get_or (value ∷ []) k d < 2 ^ 32
each_of value few zero d within = omega (arith, few)
each_of value few (suc k) d within = absurd (omega (arith, within))

one_volume : (value : ℕ) → value ≤ 0x7FFFFFFF → IsVolumes (value ∷ [])
one_volume value few = record { few = lit< tt; each = each_of value few }

pub errand_means : (errand : Errand) → IsErrand errand → HasNumbers errand → meant 18 (errand_packet errand) ≡ Ok (command_for errand)
unfolding errand_packet
errand_means list_inputs is fits = means 18 2 (command_for list_inputs) (record { known = lit< tt; tagged = lit< tt; kinds = refl; each = tt }) tt tt
errand_means (Volume input value) is fits = means 18 2 (command_for (Volume input value)) (record { known = lit< tt; tagged = lit< tt; kinds = refl; each = (fits, (one_volume value is, tt)) }) tt tt
errand_means (Mute input on) is fits = means 18 2 (command_for (Mute input on)) (record { known = lit< tt; tagged = lit< tt; kinds = refl; each = (fits, (tt, tt)) }) tt tt
errand_means (SinkVolume name value) is fits = means 18 2 (command_for (SinkVolume name value)) (record { known = lit< tt; tagged = lit< tt; kinds = refl; each = (lit< tt, (name_is_text name is.0, (one_volume value is.1, tt))) }) tt tt
errand_means (Move input name) is fits = means 18 2 (command_for (Move input name)) (record { known = lit< tt; tagged = lit< tt; kinds = refl; each = (fits, (lit< tt, (name_is_text name is, tt))) }) tt tt
errand_means (Kill input) is fits = means 18 2 (command_for (Kill input)) (record { known = lit< tt; tagged = lit< tt; kinds = refl; each = (fits, tt) }) tt tt

pub volume_bytes : errand_packet (Volume 0 32768) ≡ 0x4C ∷ 0 ∷ 0 ∷ 0 ∷ 0x25 ∷ 0x4C ∷ 0 ∷ 0 ∷ 0 ∷ 2 ∷ 0x4C ∷ 0 ∷ 0 ∷ 0 ∷ 0 ∷ 0x76 ∷ 1 ∷ 0 ∷ 0 ∷ 0x80 ∷ 0 ∷ []
unfolding errand_packet number channel_volumes
volume_bytes = refl
