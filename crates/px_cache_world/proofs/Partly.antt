-- What the parts of a world with a sample cache do, from what each of them does.
use Rattle.std.proofs.Common.{◌≡◌, ℕ, List, [], ◌∷◌, ◌++◌, refl, ap, sym, subst, ◌∙◌, append-nil}
use Rattle.std.proofs.lemmas.List.{append_assoc}
use Rattle.px_types.specs.declared.ids.ConnId.{ConnId}
use Rattle.px_tag.specs.declared.fault.TagFault.{TagFault}
use Rattle.px_session.specs.declared.event.Event.{Event}
use Rattle.px_session.specs.declared.event.Event.TheVariants.{Connect, Bytes}
use Rattle.px_state.specs.declared.effect.Effect.{Effect}
use Rattle.px_state.specs.Effect.{sending, fault_code, fault_place, offset_behind}
use Rattle.px_world.specs.World.{World}
use Rattle.px_world.specs.Event.{world_after, effects_after}
use Rattle.px_world.specs.Output.{world_by}
use Rattle.px_world.specs.Running.{Running, StandsFor as WorldStands}
use Rattle.px_sieve.specs.declared.shift.Shift.{Shift}
use Rattle.px_sieve.specs.declared.shift.Shift.TheVariants.{Unshifted, Faulted}
use Rattle.px_sieve.specs.Scene.{shifted, inner, shown_by}
use Rattle.px_sieve.proofs.Shifting.{unshifted}
use Rattle.px_scache.specs.declared.answer.Answer.{Answer}
use Rattle.px_scache.specs.declared.play.Play.{Play}
use Rattle.px_scache.specs.declared.play.Plays.{Plays}
use Rattle.px_scache.specs.Answers.{Store, Done, answer}
use Rattle.px_scache.specs.Play.{create_frame}
use Rattle.px_cache_world.specs.declared.answered.Created.{Created}
use Rattle.px_cache_world.specs.declared.parts.Parts.{Parts}
use Rattle.px_cache_world.specs.Own.{HIDDEN, auth_frame, name_frame}
use Rattle.px_cache_world.specs.Skips.{skipped_of}
use Rattle.px_cache_world.specs.Answered.{NO_STREAM, created_by, play_reply}
use Rattle.px_cache_world.specs.Course.{Course, under_way, with_play}
use Rattle.px_cache_world.specs.Sampler.{Sampler, greeting, own, alone, created, filling, play_items, fault_items, answer_items, answered_by, zero_length, shift_by, passed_on, StandsForSampler}

-- the effects of one event, and those of an event that is shown as it is
pub shown-one : (w : World) (e : Event) (shift : Shift) (effects : List Effect) → effects ≡ shifted shift (effects_after w e) → effects ≡ shifted shift (effects_after w e) ++ []
shown-one w e shift effects is = is ∙ sym (append-nil (shifted shift (effects_after w e)))

pub shown-alone : (w : World) (e : Event) (effects : List Effect) → effects ≡ effects_after w e → effects ≡ shown_by w (alone e)
shown-alone w e effects is = shown-one w e Unshifted effects (is ∙ unshifted (effects_after w e))

-- the effects of a reply
pub shown-reply : (effects replies : List Effect) → effects ≡ replies → effects ≡ replies ++ []
shown-reply effects replies is = is ∙ sym (append-nil replies)

-- ---- a frame of the server's own connection

module _ (w : World) (frame spelled : List ℕ) (same : frame ≡ spelled) where
  pub own-shown : (effects : List Effect) → effects ≡ effects_after w (Bytes HIDDEN frame) → effects ≡ shown_by w (own spelled ∷ [])
  own-shown effects is = shown-alone w (Bytes HIDDEN spelled) effects (is ∙ ap (λ f. effects_after w (Bytes HIDDEN f)) same)

  pub own-world : (running : Running) → WorldStands running (world_after w (Bytes HIDDEN frame)) → WorldStands running (world_by w (inner (own spelled ∷ [])))
  own-world running stands = subst (λ f. WorldStands running (world_after w (Bytes HIDDEN f))) same stands

-- two of them
module _ (w : World) (a a' b b' : List ℕ) (one : a ≡ a') (two : b ≡ b') where
  pub both-shown : (first more all : List Effect) → first ≡ effects_after w (Bytes HIDDEN a) → more ≡ effects_after (world_after w (Bytes HIDDEN a)) (Bytes HIDDEN b) → all ≡ first ++ more
      → all ≡ shown_by w (own a' ∷ own b' ∷ [])
  both-shown first more all is then joined =
      let e = effects_after w (Bytes HIDDEN a) in
      let later = world_after w (Bytes HIDDEN a) in
      let base : all ≡ shown_by w (own a ∷ own b ∷ []) =
      joined ∙ ap (λ l. l ++ more) (is ∙ unshifted e) ∙ ap (λ l. shifted Unshifted e ++ l) (own-shown later b b refl more then) in
      subst (λ x. all ≡ shown_by w (own x ∷ own b' ∷ [])) one (subst (λ y. all ≡ shown_by w (own a ∷ own y ∷ [])) two base)

  pub both-world : (running : Running) → WorldStands running (world_after (world_after w (Bytes HIDDEN a)) (Bytes HIDDEN b)) → WorldStands running (world_by w (inner (own a' ∷ own b' ∷ [])))
  both-world running stands =
      subst (λ x. WorldStands running (world_by w (inner (own x ∷ own b' ∷ [])))) one (subst (λ y. WorldStands running (world_by w (inner (own a ∷ own y ∷ [])))) two stands)

-- ---- a play

module _ (w : World) (p : Play) (frame : List ℕ) (first seen : List Effect) (made : Created) (spelled : frame ≡ create_frame NO_STREAM p) (is : first ≡ effects_after w (Bytes HIDDEN frame)) (looked : seen ≡ first)
    (told : made ≡ created_by seen) where
  pub made-is : made ≡ created w p
  made-is = told ∙ ap created_by (looked ∙ is ∙ ap (λ f. effects_after w (Bytes HIDDEN f)) spelled)

  pub play-shown : (conn : ConnId) (tag : ℕ) (replied longer more all : List Effect) → replied ≡ sending conn (play_reply tag made) → longer ≡ first ++ replied
      → more ≡ shown_by (world_after w (Bytes HIDDEN frame)) (filling p made) → all ≡ longer ++ more → all ≡ shown_by w (play_items w conn tag p)
  play-shown conn tag replied longer more all answers before then joined =
      let create = Bytes HIDDEN (create_frame NO_STREAM p) in
      let e = effects_after w create in
      let a : first ≡ shifted Unshifted e = is ∙ ap (λ f. effects_after w (Bytes HIDDEN f)) spelled ∙ unshifted e in
      let b : replied ≡ sending conn (play_reply tag (created w p)) = answers ∙ ap (λ c. sending conn (play_reply tag c)) made-is in
      let c : more ≡ shown_by (world_after w create) (filling p (created w p)) =
      then ∙ ap (λ f. shown_by (world_after w (Bytes HIDDEN f)) (filling p made)) spelled ∙ ap (λ m. shown_by (world_after w create) (filling p m)) made-is in
      joined ∙ ap (λ l. l ++ more) before ∙ append_assoc first replied more
      ∙ ap (λ l. l ++ (replied ++ more)) a ∙ ap (λ l. shifted Unshifted e ++ (l ++ more)) b
      ∙ ap (λ l. shifted Unshifted e ++ (sending conn (play_reply tag (created w p)) ++ l)) c

  pub play-world : (conn : ConnId) (tag : ℕ) (running : Running) → WorldStands running (world_by (world_after w (Bytes HIDDEN frame)) (inner (filling p made)))
      → WorldStands running (world_by w (inner (play_items w conn tag p)))
  play-world conn tag running stands =
      subst (λ m. WorldStands running (world_by (world_after w (Bytes HIDDEN (create_frame NO_STREAM p))) (inner (filling p m)))) made-is
      (subst (λ f. WorldStands running (world_by (world_after w (Bytes HIDDEN f)) (inner (filling p made)))) spelled stands)

  pub play-course : (before after : Course) → after ≡ with_play made before → after ≡ with_play (created w p) before
  play-course before after e = e ∙ ap (λ m. with_play m before) made-is

-- ---- a fault

module _ (w : World) (conn : ConnId) (at : ℕ) (fault : TagFault) (zero : List ℕ) (twenty : zero ≡ zero_length) where
  pub fault-shown : (code place : ℕ) (effects : List Effect) → code ≡ fault_code fault → place ≡ offset_behind at (fault_place fault)
      → effects ≡ shifted (Faulted conn code place) (effects_after w (Bytes conn zero)) → effects ≡ shown_by w (fault_items conn at fault)
  fault-shown code place effects coded placed shown =
      let e = Bytes conn zero_length in
      shown-one w e (Faulted conn (fault_code fault) (offset_behind at (fault_place fault))) effects (
      shown
      ∙ ap (λ z. shifted (Faulted conn code place) (effects_after w (Bytes conn z))) twenty
      ∙ ap (λ n. shifted (Faulted conn n place) (effects_after w e)) coded
      ∙ ap (λ n. shifted (Faulted conn (fault_code fault) n) (effects_after w e)) placed
      )

  pub fault-world : (running : Running) → WorldStands running (world_after w (Bytes conn zero)) → WorldStands running (world_by w (inner (fault_items conn at fault)))
  fault-world running stands = subst (λ z. WorldStands running (world_after w (Bytes conn z))) twenty stands

-- ---- the answer to a command

pub answered-is : (s : Sampler) (store after : Store) (course : Course) (plays : Plays) (conn : ConnId) (packet : List ℕ) (given : Answer) → store ≡ s.store → course ≡ s.course → plays ≡ under_way course
    → answer conn plays packet store ≡ (after, given) → answered_by s conn packet ≡ (after, given)
answered-is s store after course plays conn packet given same way there is =
    ap (λ t. answer conn (under_way s.course) packet t) (sym same)
    ∙ ap (λ p. answer conn p packet store) (sym (there ∙ ap under_way way))
    ∙ is

pub handled-shown : (s : Sampler) (conn : ConnId) (at tag tagged : ℕ) (packet : List ℕ) (after : Store) (given : Answer) (effects : List Effect) → answered_by s conn packet ≡ (after, given) → tag ≡ tagged
    → effects ≡ shown_by s.world (answer_items s.world conn at tag given) → effects ≡ shown_by s.world (answer_items s.world conn at tagged (answered_by s conn packet).1)
handled-shown s conn at tag tagged packet after given effects is same shown =
    shown
    ∙ ap (λ n. shown_by s.world (answer_items s.world conn at n given)) same
    ∙ ap (λ (a : Done). shown_by s.world (answer_items s.world conn at tagged a.1)) (sym is)

pub handled-world : (s : Sampler) (conn : ConnId) (at tag tagged : ℕ) (packet : List ℕ) (after : Store) (given : Answer) (running : Running) → answered_by s conn packet ≡ (after, given) → tag ≡ tagged
    → WorldStands running (world_by s.world (inner (answer_items s.world conn at tag given)))
    → WorldStands running (world_by s.world (inner (answer_items s.world conn at tagged (answered_by s conn packet).1)))
handled-world s conn at tag tagged packet after given running is same stands =
    subst (λ (a : Done). WorldStands running (world_by s.world (inner (answer_items s.world conn at tagged a.1)))) (sym is)
    (subst (λ n. WorldStands running (world_by s.world (inner (answer_items s.world conn at n given)))) same stands)

-- ---- the parts

module _ (s : Sampler) (parts : Parts) (conn : ConnId) (stands : StandsForSampler parts s) where
  pub passed-shown : (bytes : List ℕ) (shift : Shift) (skipped : ℕ) (effects : List Effect) → shift ≡ shift_by conn skipped → skipped ≡ skipped_of conn parts.skips.items
      → effects ≡ shifted shift (effects_after s.world (Bytes conn bytes)) → effects ≡ shown_by s.world (passed_on s conn bytes ∷ [])
  passed-shown bytes shift skipped effects by left shown =
      let same : shift ≡ shift_by conn (skipped_of conn s.skips) = by ∙ ap (shift_by conn) (left ∙ ap (skipped_of conn) stands.skips) in
      shown-one s.world (Bytes conn bytes) (shift_by conn (skipped_of conn s.skips)) effects (shown ∙ ap (λ t. shifted t (effects_after s.world (Bytes conn bytes))) same)

-- ---- the server connects to itself

pub greeted : (w : World) (cookie slice auth name : List ℕ) (a b d : ConnId) (running : Running) → a ≡ HIDDEN → b ≡ HIDDEN → d ≡ HIDDEN → auth ≡ auth_frame slice → slice ≡ cookie → name ≡ name_frame
    → WorldStands running (world_after (world_after (world_after w (Connect a)) (Bytes b auth)) (Bytes d name)) → WorldStands running (world_by w (greeting cookie))
greeted w cookie slice auth name a b d running one two three shown same named stands =
    subst (λ x. WorldStands running (world_after (world_after (world_after w (Connect x)) (Bytes HIDDEN (auth_frame cookie))) (Bytes HIDDEN name_frame))) one
    (subst (λ x. WorldStands running (world_after (world_after (world_after w (Connect a)) (Bytes x (auth_frame cookie))) (Bytes HIDDEN name_frame))) two
    (subst (λ x. WorldStands running (world_after (world_after (world_after w (Connect a)) (Bytes b (auth_frame cookie))) (Bytes x name_frame))) three
    (subst (λ f. WorldStands running (world_after (world_after (world_after w (Connect a)) (Bytes b f)) (Bytes d name_frame))) (shown ∙ ap auth_frame same)
    (subst (λ f. WorldStands running (world_after (world_after (world_after w (Connect a)) (Bytes b auth)) (Bytes d f))) named stands))))
