-- What is gathered before it is written.
use Rattle.std.proofs.Common.{◌≡◌, ℕ, suc, ◌+◌, ◌-◌, ◌<◌, List, [], ◌∷◌, ◌++◌, Option, Some, Result, Err, refl, sym, ap, subst, ◌∙◌, append_assoc}
use Rattle.std.proofs.lemmas.List.{append-nil}
use Rattle.std.proofs.lemmas.Option.{same_Some}
use Rattle.std.specs.List.{flat_map}
use Rattle.px_ends.specs.Visible.{after_adding}
use Rattle.px_ends.specs.Whole.{AddsFront}
use Rattle.px_ends.proofs.VisibleBytes.{adding_nothing, adding_both}
use Rattle.px_session.specs.declared.event.Event.{Event}
use Rattle.px_header.specs.declared.header.Header.{Header}
use Rattle.px_session.specs.Spelling.{event, end_byte}
use Rattle.px_session.specs.Spelling as spelling
use Rattle.px_gen.specs.declared.writing.Stop.{Stop}
use Rattle.px_gen.specs.declared.writing.Stop.TheVariants as stop
use Rattle.px_gen.specs.Generator.{form, header, opening, step_events, step_state, steps, generated}
use Rattle.px_gen.specs.Writing.{Gathered, GatheredBy}
use Rattle.px_gen.proofs.Loops.{state_behind, steps_around, steps_more}
use Rattle.px_gen.proofs.Written.{joined}

-- bytes were added to what waits
pub gathers : (given bytes old new : List ℕ) (first now : Option (List ℕ)) → Gathered given first now old → (let h : Option (List ℕ) = Some new in h) ≡ after_adding (Some old) bytes → Gathered (given ++ bytes) first now new
gathers given bytes old new first now g more = record {
  front = g.front;
  joined = ap (λ (t : List ℕ). t ++ bytes) g.joined ∙ append_assoc g.front old bytes ∙ ap (λ (t : List ℕ). g.front ++ t) (sym (same_Some new (old ++ bytes) more));
  held = g.held;
}

-- nothing was added
pub adds_none : (bytes : List ℕ) (held : Option (List ℕ)) → AddsFront bytes held held
adds_none bytes held = record { front = []; rest = bytes; joined = refl; held = sym (adding_nothing held) }

-- nothing more came
pub stays : (given bytes waiting : List ℕ) (first now : Option (List ℕ)) → Gathered given first now waiting → GatheredBy (let r : Result Unit Stop = Err stop.NoMemory in r) (given ++ bytes) first now waiting
stays given bytes waiting first now g = (given, bytes, refl, g)

-- a front of the bytes came
pub some_gathered : (given bytes old new : List ℕ) (first now : Option (List ℕ)) → Gathered given first now old → AddsFront bytes (Some old) (Some new) → GatheredBy (let r : Result Unit Stop = Err stop.NoMemory in r) (given ++ bytes) first now new
some_gathered given bytes old new first now g cut =
    (given ++ cut.front, cut.rest, ap (λ (t : List ℕ). given ++ t) cut.joined ∙ sym (append_assoc given cut.front cut.rest), gathers given cut.front old new first now g cut.held)

-- what waits was written
pub ends_all : (given waiting : List ℕ) (first now then : Option (List ℕ)) → Gathered given first now waiting → then ≡ after_adding now waiting → then ≡ after_adding first given
ends_all given waiting first now then g written =
    written ∙ ap (λ (h : Option (List ℕ)). after_adding h waiting) g.held ∙ adding_both g.front waiting first ∙ ap (after_adding first) (sym g.joined)

pub is_flushed : (given waiting after : List ℕ) (first now then : Option (List ℕ)) → Gathered given first now waiting → then ≡ after_adding now waiting → after ≡ [] → Gathered given first then after
is_flushed given waiting after first now then g written none = record {
  front = given;
  joined = sym (append-nil given) ∙ ap (λ (t : List ℕ). given ++ t) (sym none);
  held = ends_all given waiting first now then g written;
}

-- or a front of it
pub is_cut : (given waiting : List ℕ) (first now then : Option (List ℕ)) → Gathered given first now waiting → AddsFront waiting now then → AddsFront given first then
is_cut given waiting first now then g cut = record {
  front = g.front ++ cut.front;
  rest = cut.rest;
  joined = g.joined ∙ ap (λ (t : List ℕ). g.front ++ t) cut.joined ∙ sym (append_assoc g.front cut.front cut.rest);
  held = cut.held ∙ ap (λ (h : Option (List ℕ)). after_adding h cut.front) g.held ∙ adding_both g.front cut.front first;
}

-- what follows it doesn't matter
pub cut_more : (given more : List ℕ) (first now : Option (List ℕ)) → AddsFront given first now → AddsFront (given ++ more) first now
cut_more given more first now cut = record { front = cut.front; rest = cut.rest ++ more; joined = ap (λ (t : List ℕ). t ++ more) cut.joined ∙ append_assoc cut.front cut.rest more; held = cut.held }

pub stopped_more : (e : Stop) (given more : List ℕ) (first now : Option (List ℕ)) (waiting : List ℕ) → GatheredBy (let r : Result Unit Stop = Err e in r) given first now waiting → GatheredBy (let r : Result Unit Stop = Err e in r) (given ++ more) first now waiting
stopped_more stop.NoMemory given more first now waiting s =
    (s.0, s.1 ++ more, ap (λ (t : List ℕ). t ++ more) s.2 ∙ append_assoc s.0 s.1 more, s.3)
stopped_more stop.Failed given more first now waiting s = cut_more given more first now s

-- ---- steps

-- the step at a place stopped
pub steps_stopped : (e : Stop) (given : List ℕ) (i count x y : ℕ) (first now : Option (List ℕ)) (waiting : List ℕ) → i < count → y ≡ state_behind i x
    → GatheredBy (let r : Result Unit Stop = Err e in r) ((given ++ flat_map (event form) (steps i x)) ++ flat_map (event form) (step_events y)) first now waiting
    → GatheredBy (let r : Result Unit Stop = Err e in r) (given ++ flat_map (event form) (steps count x)) first now waiting
steps_stopped e given i count x y first now waiting inside at stopped =
    let done = flat_map (event form) (steps i x) in
    let this = flat_map (event form) (step_events (state_behind i x)) in
    let more = flat_map (event form) (steps (count - suc i) (step_state (state_behind i x))) in
    let here = subst (λ (z : ℕ). GatheredBy (let r : Result Unit Stop = Err e in r) ((given ++ done) ++ flat_map (event form) (step_events z)) first now waiting) at stopped in
    subst (λ (all : List ℕ). GatheredBy (let r : Result Unit Stop = Err e in r) all first now waiting)
    (append_assoc (given ++ done) this more ∙ append_assoc given done (this ++ more) ∙ ap (λ (t : List ℕ). given ++ t) (sym (steps_around i count x inside)))
    (stopped_more e ((given ++ done) ++ this) more first now waiting here)

-- the step at a place was gathered
pub steps_gathered : (given : List ℕ) (i x y : ℕ) (first now : Option (List ℕ)) (waiting : List ℕ) → y ≡ state_behind i x
    → Gathered ((given ++ flat_map (event form) (steps i x)) ++ flat_map (event form) (step_events y)) first now waiting
    → Gathered (given ++ flat_map (event form) (steps (i + 1) x)) first now waiting
steps_gathered given i x y first now waiting at more =
    subst (λ (all : List ℕ). Gathered all first now waiting)
    (append_assoc given (flat_map (event form) (steps i x)) (flat_map (event form) (step_events y))
    ∙ ap (λ (t : List ℕ). given ++ t) (ap (λ (z : ℕ). flat_map (event form) (steps i x) ++ flat_map (event form) (step_events z)) at ∙ sym (steps_more i x))) more

-- ---- the end

-- nothing is given at first
pub nothing : (first : Option (List ℕ)) (waiting : List ℕ) → waiting ≡ [] → Gathered [] first first waiting
nothing first waiting none = record { front = []; joined = sym none; held = sym (adding_nothing first) }

pub ends_short : (given waiting : List ℕ) (first now then : Option (List ℕ)) → GatheredBy (let r : Result Unit Stop = Err stop.NoMemory in r) given first now waiting → then ≡ after_adding now waiting → AddsFront given first then
ends_short given waiting first now then g written = record { front = g.0; rest = g.1; joined = g.2; held = ends_all g.0 waiting first now then g.3 written }

pub short_cut : (given waiting : List ℕ) (first now then : Option (List ℕ)) → GatheredBy (let r : Result Unit Stop = Err stop.NoMemory in r) given first now waiting → AddsFront waiting now then → AddsFront given first then
short_cut given waiting first now then g cut = subst (λ (b : List ℕ). AddsFront b first then) (sym g.2) (cut_more g.0 g.1 first then (is_cut g.0 waiting first now then g.3 cut))

-- ---- a session

abbrev pub head : List ℕ
head = spelling.header form header ++ flat_map (event form) opening

whole : (number count : ℕ) → (head ++ flat_map (event form) (steps count number)) ++ end_byte ∷ [] ≡ generated number count
whole number count =
    let body = flat_map (event form) (steps count number) in
    append_assoc head body (end_byte ∷ []) ∙ append_assoc (spelling.header form header) (flat_map (event form) opening) (body ++ end_byte ∷ []) ∙ joined number count

module _ (number count : ℕ) (h : Header) (events : List Event) (is : h ≡ header) (are : events ≡ opening) (first : Option (List ℕ)) (old : List ℕ) (none : old ≡ []) where
  abbrev body : List ℕ
  body = flat_map (event form) (steps count number)

  head_is : spelling.header form h ++ flat_map (event form) events ≡ head
  head_is = ap (λ (g : Header). spelling.header form g ++ flat_map (event form) events) is ∙ ap (λ (es : List Event). spelling.header form header ++ flat_map (event form) es) are

  pub head_gathered : (new : List ℕ) → (let o : Option (List ℕ) = Some new in o) ≡ after_adding (Some old) (spelling.header form h ++ flat_map (event form) events) → Gathered head first first new
  head_gathered new more = subst (λ (b : List ℕ). Gathered b first first new) head_is (gathers [] (spelling.header form h ++ flat_map (event form) events) old new first first (nothing first old none) more)

  pub head_stopped : (new : List ℕ) → AddsFront (spelling.header form h ++ flat_map (event form) events) (Some old) (Some new) → GatheredBy (let r : Result Unit Stop = Err stop.NoMemory in r) (generated number count) first first new
  head_stopped new cut =
      let here = subst (λ (b : List ℕ). GatheredBy (let r : Result Unit Stop = Err stop.NoMemory in r) b first first new) head_is (some_gathered [] (spelling.header form h ++ flat_map (event form) events) old new first first (nothing first old none) cut) in
      subst (λ (b : List ℕ). GatheredBy (let r : Result Unit Stop = Err stop.NoMemory in r) b first first new) (whole number count)
      (stopped_more stop.NoMemory (head ++ body) (end_byte ∷ []) first first new (stopped_more stop.NoMemory head body first first new here))

  pub steps_end : (e : Stop) (now : Option (List ℕ)) (new : List ℕ) → GatheredBy (let r : Result Unit Stop = Err e in r) (head ++ body) first now new → GatheredBy (let r : Result Unit Stop = Err e in r) (generated number count) first now new
  steps_end e now new stopped = subst (λ (b : List ℕ). GatheredBy (let r : Result Unit Stop = Err e in r) b first now new) (whole number count) (stopped_more e (head ++ body) (end_byte ∷ []) first now new stopped)

  pub end_gathered : (now : Option (List ℕ)) (mid new : List ℕ) → Gathered (head ++ body) first now mid → (let o : Option (List ℕ) = Some new in o) ≡ after_adding (Some mid) (end_byte ∷ []) → Gathered (generated number count) first now new
  end_gathered now mid new g more = subst (λ (b : List ℕ). Gathered b first now new) (whole number count) (gathers (head ++ body) (end_byte ∷ []) mid new first now g more)

  pub end_stopped : (now : Option (List ℕ)) (mid new : List ℕ) → Gathered (head ++ body) first now mid → AddsFront (end_byte ∷ []) (Some mid) (Some new) → GatheredBy (let r : Result Unit Stop = Err stop.NoMemory in r) (generated number count) first now new
  end_stopped now mid new g cut = subst (λ (b : List ℕ). GatheredBy (let r : Result Unit Stop = Err stop.NoMemory in r) b first now new) (whole number count) (some_gathered (head ++ body) (end_byte ∷ []) mid new first now g cut)

-- the state that the steps begin with
pub steps_from : {A : Type 0} (r : Result A Stop) (count number state : ℕ) (given : List ℕ) (first now : Option (List ℕ)) (waiting : List ℕ) → state ≡ number
    → GatheredBy r (given ++ flat_map (event form) (steps count state)) first now waiting → GatheredBy r (given ++ flat_map (event form) (steps count number)) first now waiting
steps_from r count number state given first now waiting same gathered = subst (λ (x : ℕ). GatheredBy r (given ++ flat_map (event form) (steps count x)) first now waiting) same gathered
