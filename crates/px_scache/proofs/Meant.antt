-- The packets of a play mean their commands at version 18.
use Rattle.std.proofs.Common.{arith, ◌≡◌, ℕ, zero, suc, ◌<◌, ◌^◌, nat_le, List, [], ◌∷◌, length, slice_index_or, Option, None, Some, Ok, refl, lit<}
use Rattle.std.specs.Prelude.{IsTrue}
use Rattle.px_sample.specs.declared.format.Format.{Format}
use Rattle.px_sample.specs.declared.format.Format.TheVariants.{U8, Alaw, Ulaw, S16Le, S16Be, Float32Le, Float32Be, S32Le, S32Be, S24Le, S24Be, S24In32Le, S24In32Be}
use Rattle.px_sample.specs.Format.{code_of}
use Rattle.px_tag.specs.Item.{IsText, IsSpec, IsMap, IsVolumes, is_text}
use Rattle.px_outcome.specs.Target.{raw_of}
use Rattle.px_cmd.specs.declared.command.Command.TheVariants.{Create, Drain, Delete}
use Rattle.px_cmd.specs.Command.{fields_of}
use Rattle.px_cmd.specs.Meant.{meant}
use Rattle.px_cmd.specs.Packet.{meaning}
use Rattle.px_cmd.proofs.Again.{packet_again}
use Rattle.px_scache.specs.declared.play.Play.{Play}
use Rattle.px_scache.specs.declared.sample.Sample.{Sample}
use Rattle.px_scache.specs.Cache.{IsSample}
use Rattle.px_scache.proofs.Packets.{both}
use Rattle.px_scache.specs.Play.{create_of, packet, create_packet, drain_packet, delete_packet, is_name, IsPlay}

code_few : (format : Format) → code_of format < 2 ^ 8
code_few U8 = lit< tt
code_few Alaw = lit< tt
code_few Ulaw = lit< tt
code_few S16Le = lit< tt
code_few S16Be = lit< tt
code_few Float32Le = lit< tt
code_few Float32Be = lit< tt
code_few S32Le = lit< tt
code_few S32Be = lit< tt
code_few S24Le = lit< tt
code_few S24Be = lit< tt
code_few S24In32Le = lit< tt
code_few S24In32Be = lit< tt

spec_is : (s : Sample) → IsSample s → IsSpec (raw_of s.spec)
spec_is s is = record {
  format = code_few s.spec.format;
  channels = omega (arith, is.channels, is.map.few);
  rate = omega (arith, is.rate);
}

map_is : (s : Sample) → IsSample s → IsMap s.map
map_is s is = record { few = is.map.few; bytes = λ k d lt. omega (arith, is.map.known k d lt) }

one_volume : (v : ℕ) → v < 2 ^ 32 → (k d : ℕ) → k < 1 → slice_index_or (v ∷ []) k d < 2 ^ 32
one_volume v few zero d lt = few
one_volume v few (suc k) d lt = absurd (omega (arith, lt))

volume_is : (v : ℕ) → v < 2 ^ 32 → IsVolumes (v ∷ [])
volume_is v few = record { few = lit< tt; each = one_volume v few }

name_is : (name : Option (List ℕ)) → IsTrue (is_name name) → IsText name
name_is None is = tt
name_is (Some name) is = (both (nat_le (length name) 64) (is_text name) is).1

bytes_few : (s : Sample) → IsSample s → length s.bytes < 2 ^ 32
bytes_few s is = omega (arith, is.few)

pub create_means : (tag : ℕ) (p : Play) → IsPlay p → tag < 2 ^ 32 → p.sink.index < 2 ^ 32 → p.volume < 2 ^ 32 → meant 18 (create_packet tag p) ≡ Ok (Create (create_of p))
unfolding meant create_packet
create_means tag p is low index volume =
    let again : meaning 18 (packet tag (Create (create_of p))) ≡ Ok (3, fields_of (Create (create_of p))) = packet_again 18 3 tag (fields_of (Create (create_of p))) (record {
      known = lit< tt;
      tagged = low;
      kinds = refl;
      each = (
        spec_is p.sample is.sample,
        (
          map_is p.sample is.sample,
          (
            index,
            (
              name_is p.sink.name is.name,
              (
                lit< tt,
                (
                  tt,
                  (
                    bytes_few p.sample is.sample,
                    (
                      lit< tt,
                      (
                        bytes_few p.sample is.sample,
                        (
                          lit< tt,
                          (
                            volume_is p.volume volume,
                            (
                              tt,
                              (
                                tt,
                                (
                                  tt,
                                  (
                                    tt,
                                    (
                                      tt,
                                      (
                                        tt,
                                        (
                                          tt,
                                          (
                                            tt,
                                            (
                                              tt,
                                              (
                                                refl,
                                                (tt, (tt, (tt, (tt, (tt, (tt, (tt, tt))))))),
                                              ),
                                            ),
                                          ),
                                        ),
                                      ),
                                    ),
                                  ),
                                ),
                              ),
                            ),
                          ),
                        ),
                      ),
                    ),
                  ),
                ),
              ),
            ),
          ),
        ),
      );
    }) in
    rw again refl

pub drain_means : (tag stream : ℕ) → tag < 2 ^ 32 → stream < 2 ^ 32 → meant 18 (drain_packet tag stream) ≡ Ok (Drain stream)
unfolding meant drain_packet
drain_means tag stream low fits =
    let again : meaning 18 (packet tag (Drain stream)) ≡ Ok (12, fields_of (Drain stream)) = packet_again 18 12 tag (fields_of (Drain stream)) (record { known = lit< tt; tagged = low; kinds = refl; each = (fits, tt) }) in
    rw again refl

pub delete_means : (tag stream : ℕ) → tag < 2 ^ 32 → stream < 2 ^ 32 → meant 18 (delete_packet tag stream) ≡ Ok (Delete stream)
unfolding meant delete_packet
delete_means tag stream low fits =
    let again : meaning 18 (packet tag (Delete stream)) ≡ Ok (4, fields_of (Delete stream)) = packet_again 18 4 tag (fields_of (Delete stream)) (record { known = lit< tt; tagged = low; kinds = refl; each = (fits, tt) }) in
    rw again refl
