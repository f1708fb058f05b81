-- What the server writes is read as it was.
use Rattle.std.proofs.Common.{◌≡◌, ℕ, zero, suc, ◌<◌, ◌≤◌, ◌^◌, ◌==◌, Bool, true, false, List, [], ◌∷◌, ◌++◌, length, length-append, map, fold, Option, None, Some, Ok, Err, codes, refl, ap, sym, ◌∙◌, append-nil, append_assoc, lit<, arith}
use Rattle.std.proofs.lemmas.Bool.{eqb-true}
use Rattle.px_tag.specs.declared.fault.TagFault.TheVariants.{Left}
use Rattle.px_tag.specs.declared.raw.RawSpec.{RawSpec}
use Rattle.px_tag.specs.Place.{offset_of}
use Rattle.px_tag.specs.PropList.{Property}
use Rattle.px_tag.specs.Item.{number, text, usec, flag, spec, channel_map, channel_volumes, proplist, IsText, IsSpec, IsMap, IsVolumes, IsPropList}
use Rattle.px_tag.specs.Reading.{end_at}
use Rattle.px_tag.proofs.Items.{number_law, usec_law, flag_law, text_law}
use Rattle.px_tag.proofs.Parts.{spec_law, map_law, volumes_law}
use Rattle.px_tag.proofs.Written.{list_again}
use Rattle.px_cmd.specs.Packet.{head_at}
use Rattle.px_reply.specs.declared.info.InputInfo.{InputInfo}
use Rattle.px_reply.specs.Front.{reply_to, refusal, message, nothing, driver}
use Rattle.px_reply.specs.Info.{with_input, inputs_reply}
use Rattle.px_client.specs.declared.awaited.Awaited.{Awaited}
use Rattle.px_client.specs.declared.awaited.Awaited.TheVariants as awaits
use Rattle.px_client.specs.declared.answer.Verdict.TheVariants.{Message, Reply, Refusal}
use Rattle.px_client.specs.Answers.{owner_at, loudness_at, state_at, input_at, inputs_at, only_number, tag_of, judged_behind, judged}
use Rattle.px_client.specs.Written.{shown, IsInfo, AreInfos}

-- ---- an input

owner_again : (index owner client sink : ℕ) (name : Option (List ℕ)) (size : ℕ) (r : List ℕ) → index < 2 ^ 32 → IsText name → owner < 2 ^ 32 → client < 2 ^ 32 → sink < 2 ^ 32
    → owner_at (record { size = size; rest = number index ++ (text name ++ (number owner ++ (number client ++ (number sink ++ r)))) }) ≡ Ok ((index, sink), record { size = size; rest = r })
unfolding owner_at
owner_again index owner client sink name size r li is lm lc ls =
    rw (
      number_law.again index size (text name ++ (number owner ++ (number client ++ (number sink ++ r)))) li,
      text_law.again name size (number owner ++ (number client ++ (number sink ++ r))) is,
      number_law.again owner size (number client ++ (number sink ++ r)) lm,
      number_law.again client size (number sink ++ r) lc,
      number_law.again sink size r ls,
    ) refl

loudness_again : (s : RawSpec) (positions volumes : List ℕ) (size : ℕ) (r : List ℕ) → IsSpec s → IsMap positions → IsVolumes volumes
    → loudness_at (record { size = size; rest = spec s ++ (channel_map positions ++ (channel_volumes volumes ++ r)) }) ≡ Ok (volumes, record { size = size; rest = r })
unfolding loudness_at
loudness_again s positions volumes size r is im iv =
    rw (
      spec_law.again s size (channel_map positions ++ (channel_volumes volumes ++ r)) is,
      map_law.again positions size (channel_volumes volumes ++ r) im,
      volumes_law.again volumes size r iv,
    ) refl

state_again : (mute : Bool) (list : List Property) (size : ℕ) (r : List ℕ) → IsPropList list
    → state_at (record { size = size; rest = usec 0 ++ (usec 0 ++ (text None ++ (driver ++ (flag mute ++ (proplist list ++ r))))) }) ≡ Ok (mute, record { size = size; rest = r })
unfolding state_at
state_again mute list size r is =
    rw (
      usec_law.again 0 size (usec 0 ++ (text None ++ (driver ++ (flag mute ++ (proplist list ++ r))))) (lit< tt),
      usec_law.again 0 size (text None ++ (driver ++ (flag mute ++ (proplist list ++ r)))) (lit< tt),
      text_law.again None size (driver ++ (flag mute ++ (proplist list ++ r))) tt,
      text_law.again (Some (codes "pulse_rw")) size (flag mute ++ (proplist list ++ r)) refl,
      flag_law.again mute size (proplist list ++ r) tt,
      list_again list size r is,
    ) refl

-- the cells of an input, before what follows it
abbrev cells : InputInfo → List ℕ → List ℕ
cells i r = number i.index ++ (text i.name ++ (number nothing ++ (number i.client ++ (number i.sink ++ (spec i.spec ++ (channel_map i.map ++ (channel_volumes i.volume
    ++ (usec 0 ++ (usec 0 ++ (text None ++ (driver ++ (flag i.mute ++ (proplist i.list ++ r)))))))))))))

input_again : (i : InputInfo) (size : ℕ) (r : List ℕ) → IsInfo i → input_at (record { size = size; rest = cells i r }) ≡ Ok (shown i, record { size = size; rest = r })
unfolding input_at
input_again i size r is =
    let state = usec 0 ++ (usec 0 ++ (text None ++ (driver ++ (flag i.mute ++ (proplist i.list ++ r))))) in
    rw (
      owner_again i.index nothing i.client i.sink i.name size (spec i.spec ++ (channel_map i.map ++ (channel_volumes i.volume ++ state))) is.index is.name (lit< tt) is.client is.sink,
      loudness_again i.spec i.map i.volume size state is.spec is.map is.volume,
      state_again i.mute i.list size r is.list,
    ) refl

regrouped : (b x1 x2 x3 x4 x5 x6 x7 x8 x9 x10 x11 x12 x13 x14 r : List ℕ) → ((((((((((((((b ++ x1) ++ x2) ++ x3) ++ x4) ++ x5) ++ x6) ++ x7) ++ x8) ++ x9) ++ x10) ++ x11) ++ x12) ++ x13) ++ x14) ++ r ≡ b ++ (x1 ++ (x2 ++ (x3 ++ (x4 ++ (x5 ++ (x6 ++ (x7 ++ (x8 ++ (x9 ++ (x10 ++ (x11 ++ (x12 ++ (x13 ++ (x14 ++ r))))))))))))))
regrouped b x1 x2 x3 x4 x5 x6 x7 x8 x9 x10 x11 x12 x13 x14 r =
    append_assoc (((((((((((((b ++ x1) ++ x2) ++ x3) ++ x4) ++ x5) ++ x6) ++ x7) ++ x8) ++ x9) ++ x10) ++ x11) ++ x12) ++ x13) x14 r ∙ append_assoc ((((((((((((b ++ x1) ++ x2) ++ x3) ++ x4) ++ x5) ++ x6) ++ x7) ++ x8) ++ x9) ++ x10) ++ x11) ++ x12) x13 (x14 ++ r) ∙ append_assoc (((((((((((b ++ x1) ++ x2) ++ x3) ++ x4) ++ x5) ++ x6) ++ x7) ++ x8) ++ x9) ++ x10) ++ x11) x12 (x13 ++ (x14 ++ r)) ∙ append_assoc ((((((((((b ++ x1) ++ x2) ++ x3) ++ x4) ++ x5) ++ x6) ++ x7) ++ x8) ++ x9) ++ x10) x11 (x12 ++ (x13 ++ (x14 ++ r))) ∙ append_assoc (((((((((b ++ x1) ++ x2) ++ x3) ++ x4) ++ x5) ++ x6) ++ x7) ++ x8) ++ x9) x10 (x11 ++ (x12 ++ (x13 ++ (x14 ++ r)))) ∙ append_assoc ((((((((b ++ x1) ++ x2) ++ x3) ++ x4) ++ x5) ++ x6) ++ x7) ++ x8) x9 (x10 ++ (x11 ++ (x12 ++ (x13 ++ (x14 ++ r))))) ∙ append_assoc (((((((b ++ x1) ++ x2) ++ x3) ++ x4) ++ x5) ++ x6) ++ x7) x8 (x9 ++ (x10 ++ (x11 ++ (x12 ++ (x13 ++ (x14 ++ r)))))) ∙ append_assoc ((((((b ++ x1) ++ x2) ++ x3) ++ x4) ++ x5) ++ x6) x7 (x8 ++ (x9 ++ (x10 ++ (x11 ++ (x12 ++ (x13 ++ (x14 ++ r))))))) ∙ append_assoc (((((b ++ x1) ++ x2) ++ x3) ++ x4) ++ x5) x6 (x7 ++ (x8 ++ (x9 ++ (x10 ++ (x11 ++ (x12 ++ (x13 ++ (x14 ++ r)))))))) ∙ append_assoc ((((b ++ x1) ++ x2) ++ x3) ++ x4) x5 (x6 ++ (x7 ++ (x8 ++ (x9 ++ (x10 ++ (x11 ++ (x12 ++ (x13 ++ (x14 ++ r))))))))) ∙ append_assoc (((b ++ x1) ++ x2) ++ x3) x4 (x5 ++ (x6 ++ (x7 ++ (x8 ++ (x9 ++ (x10 ++ (x11 ++ (x12 ++ (x13 ++ (x14 ++ r)))))))))) ∙ append_assoc ((b ++ x1) ++ x2) x3 (x4 ++ (x5 ++ (x6 ++ (x7 ++ (x8 ++ (x9 ++ (x10 ++ (x11 ++ (x12 ++ (x13 ++ (x14 ++ r))))))))))) ∙ append_assoc (b ++ x1) x2 (x3 ++ (x4 ++ (x5 ++ (x6 ++ (x7 ++ (x8 ++ (x9 ++ (x10 ++ (x11 ++ (x12 ++ (x13 ++ (x14 ++ r)))))))))))) ∙ append_assoc b x1 (x2 ++ (x3 ++ (x4 ++ (x5 ++ (x6 ++ (x7 ++ (x8 ++ (x9 ++ (x10 ++ (x11 ++ (x12 ++ (x13 ++ (x14 ++ r)))))))))))))

with_cells : (bytes : List ℕ) (i : InputInfo) (r : List ℕ) → with_input bytes i ++ r ≡ bytes ++ cells i r
with_cells bytes i r =
    regrouped bytes (number i.index) (text i.name) (number nothing) (number i.client) (number i.sink) (spec i.spec) (channel_map i.map) (channel_volumes i.volume)
    (usec 0) (usec 0) (text None) driver (flag i.mute) (proplist i.list) r

-- ---- inputs

abbrev all_cells : List InputInfo → List ℕ
all_cells [] = []
all_cells (i ∷ infos) = cells i (all_cells infos)

folded : (bytes : List ℕ) (infos : List InputInfo) → fold with_input bytes infos ≡ bytes ++ all_cells infos
folded bytes [] = sym (append-nil bytes)
folded bytes (i ∷ infos) = folded (with_input bytes i) infos ∙ with_cells bytes i (all_cells infos)

number_size : (n : ℕ) → length (number n) ≡ 5
unfolding number
number_size n = refl

-- each input has at least one byte more than what follows it
cells_more : (i : InputInfo) (r : List ℕ) → length r < length (cells i r)
cells_more i r = omega (arith, number_size i.index, length-append (number i.index) (text i.name ++ (number nothing ++ (number i.client ++ (number i.sink ++ (spec i.spec ++ (channel_map i.map ++ (channel_volumes i.volume ++ (usec 0 ++ (usec 0 ++ (text None ++ (driver ++ (flag i.mute ++ (proplist i.list ++ r))))))))))))), length-append (text i.name) (number nothing ++ (number i.client ++ (number i.sink ++ (spec i.spec ++ (channel_map i.map ++ (channel_volumes i.volume ++ (usec 0 ++ (usec 0 ++ (text None ++ (driver ++ (flag i.mute ++ (proplist i.list ++ r)))))))))))), length-append (number nothing) (number i.client ++ (number i.sink ++ (spec i.spec ++ (channel_map i.map ++ (channel_volumes i.volume ++ (usec 0 ++ (usec 0 ++ (text None ++ (driver ++ (flag i.mute ++ (proplist i.list ++ r))))))))))), length-append (number i.client) (number i.sink ++ (spec i.spec ++ (channel_map i.map ++ (channel_volumes i.volume ++ (usec 0 ++ (usec 0 ++ (text None ++ (driver ++ (flag i.mute ++ (proplist i.list ++ r)))))))))), length-append (number i.sink) (spec i.spec ++ (channel_map i.map ++ (channel_volumes i.volume ++ (usec 0 ++ (usec 0 ++ (text None ++ (driver ++ (flag i.mute ++ (proplist i.list ++ r))))))))), length-append (spec i.spec) (channel_map i.map ++ (channel_volumes i.volume ++ (usec 0 ++ (usec 0 ++ (text None ++ (driver ++ (flag i.mute ++ (proplist i.list ++ r)))))))), length-append (channel_map i.map) (channel_volumes i.volume ++ (usec 0 ++ (usec 0 ++ (text None ++ (driver ++ (flag i.mute ++ (proplist i.list ++ r))))))), length-append (channel_volumes i.volume) (usec 0 ++ (usec 0 ++ (text None ++ (driver ++ (flag i.mute ++ (proplist i.list ++ r)))))), length-append (usec 0) (usec 0 ++ (text None ++ (driver ++ (flag i.mute ++ (proplist i.list ++ r))))), length-append (usec 0) (text None ++ (driver ++ (flag i.mute ++ (proplist i.list ++ r)))), length-append (text None) (driver ++ (flag i.mute ++ (proplist i.list ++ r))), length-append (driver) (flag i.mute ++ (proplist i.list ++ r)), length-append (flag i.mute) (proplist i.list ++ r), length-append (proplist i.list) r)

ended : (size : ℕ) → end_at (record { size = size; rest = [] }) ≡ Ok tt
unfolding end_at
ended size = refl

not_zero : (n : ℕ) → 0 < n → (n == 0) ≡ false
not_zero n some = go (n == 0) refl
  where
    go : (b : Bool) → (n == 0) ≡ b → (n == 0) ≡ false
    go false e = e
    go true e = absurd (let none : n ≡ 0 = eqb-true n 0 e in omega (arith, some))

more_left : (size : ℕ) (rest : List ℕ) → 0 < length rest → end_at (record { size = size; rest = rest }) ≡ Err (Left (offset_of (record { size = size; rest = rest })))
unfolding end_at
more_left size rest some = rw (not_zero (length rest) some) refl

goes_on : (i : InputInfo) (size : ℕ) (r : List ℕ) → end_at (record { size = size; rest = cells i r }) ≡ Err (Left (offset_of (record { size = size; rest = cells i r })))
goes_on i size r = more_left size (cells i r) (omega (arith, cells_more i r))

inputs_again : (most : ℕ) (infos : List InputInfo) (size : ℕ) → AreInfos infos → length (all_cells infos) ≤ most
    → inputs_at most (record { size = size; rest = all_cells infos }) ≡ Ok (map shown infos)
inputs_again zero [] size are few = rw (ended size) refl
inputs_again zero (i ∷ infos) size are few = absurd (omega (arith, few, cells_more i (all_cells infos)))
inputs_again (suc most) [] size are few = rw (ended size) refl
inputs_again (suc most) (i ∷ infos) size are few =
    rw (goes_on i size (all_cells infos), input_again i size (all_cells infos) are.0, inputs_again most infos size are.1 (omega (arith, few, cells_more i (all_cells infos)))) refl

-- ---- packets

head_again : (command tag size : ℕ) (r : List ℕ) → command < 2 ^ 32 → tag < 2 ^ 32 → head_at (record { size = size; rest = number command ++ number tag ++ r }) ≡ Ok ((command, tag), record { size = size; rest = r })
unfolding head_at
head_again command tag size r low high =
    ap (λ (x : List ℕ). head_at (record { size = size; rest = x })) (append_assoc (number command) (number tag) r) ∙ rw (number_law.again command size (number tag ++ r) low, number_law.again tag size r high) refl

pub list_read : (infos : List InputInfo) → AreInfos infos → judged awaits.List (inputs_reply 2 infos) ≡ Reply (map shown infos)
unfolding judged
list_read infos are =
    let packet = inputs_reply 2 infos in
    let size = length packet in
    let is : packet ≡ reply_to 2 ++ all_cells infos = folded (reply_to 2) infos in
    let few : length (all_cells infos) ≤ size = omega (arith, ap length is, length-append (reply_to 2) (all_cells infos)) in
    ap (λ (x : List ℕ). judged_behind awaits.List size (head_at (record { size = size; rest = x }))) is
    ∙ rw (head_again 2 2 size (all_cells infos) (lit< tt) (lit< tt), inputs_again size infos size are few) refl

one_number : (n size : ℕ) → n < 2 ^ 32 → only_number (record { size = size; rest = number n ++ [] }) ≡ Ok n
unfolding only_number
one_number n size fits = rw (number_law.again n size [] fits, ended size) refl

pub version_read : (version : ℕ) → version < 2 ^ 32 → judged awaits.Version (reply_to 0 ++ number version) ≡ Reply []
unfolding judged
version_read version fits =
    let packet = reply_to 0 ++ number version in
    ap (λ (x : List ℕ). judged_behind awaits.Version (length packet) (head_at (record { size = length packet; rest = reply_to 0 ++ x }))) (sym (append-nil (number version)))
    ∙ rw (head_again 2 0 (length packet) (number version ++ []) (lit< tt) (lit< tt), one_number version (length packet) fits) refl

pub client_read : (client : ℕ) → client < 2 ^ 32 → judged awaits.Client (reply_to 1 ++ number client) ≡ Reply []
unfolding judged
client_read client fits =
    let packet = reply_to 1 ++ number client in
    ap (λ (x : List ℕ). judged_behind awaits.Client (length packet) (head_at (record { size = length packet; rest = reply_to 1 ++ x }))) (sym (append-nil (number client)))
    ∙ rw (head_again 2 1 (length packet) (number client ++ []) (lit< tt) (lit< tt), one_number client (length packet) fits) refl

pub plain_read : judged awaits.Nothing (reply_to 2) ≡ Reply []
unfolding judged
plain_read =
    ap (λ (x : List ℕ). judged_behind awaits.Nothing (length (reply_to 2)) (head_at (record { size = length (reply_to 2); rest = x }))) (sym (append-nil (reply_to 2)))
    ∙ rw (head_again 2 2 (length (reply_to 2)) [] (lit< tt) (lit< tt), ended (length (reply_to 2))) refl

error_front : (awaited : Awaited) (tag code : ℕ) → tag < 2 ^ 32 → code < 2 ^ 32 → judged awaited (refusal tag code) ≡ judged_behind awaited (length (refusal tag code)) (Ok ((0, tag), record { size = length (refusal tag code); rest = number code ++ [] }))
unfolding judged
error_front awaited tag code low fits =
    ap (λ (x : List ℕ). judged_behind awaited (length (refusal tag code)) (head_at (record { size = length (refusal tag code); rest = number 0 ++ number tag ++ x }))) (sym (append-nil (number code)))
    ∙ ap (judged_behind awaited (length (refusal tag code))) (head_again 0 tag (length (refusal tag code)) (number code ++ []) (lit< tt) low)

pub refusal_read : (awaited : Awaited) (code : ℕ) → code < 2 ^ 32 → judged awaited (refusal (tag_of awaited) code) ≡ Refusal code
unfolding judged
refusal_read awaits.Version code fits = error_front awaits.Version 0 code (lit< tt) fits ∙ rw (one_number code (length (refusal 0 code)) fits) refl
refusal_read awaits.Client code fits = error_front awaits.Client 1 code (lit< tt) fits ∙ rw (one_number code (length (refusal 1 code)) fits) refl
refusal_read awaits.Nothing code fits = error_front awaits.Nothing 2 code (lit< tt) fits ∙ rw (one_number code (length (refusal 2 code)) fits) refl
refusal_read awaits.List code fits = error_front awaits.List 2 code (lit< tt) fits ∙ rw (one_number code (length (refusal 2 code)) fits) refl

pub message_read : (awaited : Awaited) (command : ℕ) (fields : List ℕ) → command < 2 ^ 32 → judged awaited (message command ++ fields) ≡ Message
unfolding judged
message_read awaited command fields fits =
    let size = length (message command ++ fields) in
    rw (head_again command 0xFFFFFFFF size fields fits (lit< tt)) refl
