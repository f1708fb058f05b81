-- What waits is written, or a front of it.
use Rattle.std.proofs.lemmas.Bool.{false≢true}
use Rattle.std.proofs.Common.{◌≡◌, inl, inr, ℕ, List, [], ◌++◌, true, false, Option, None, Some, Result, Ok, Err, OnOk, OnErr, is_ok, is_err, refl, sym, ap, subst, ◌∙◌, append_assoc}
use Rattle.std.proofs.lemmas.List.{append_cancel_left}
use Rattle.std.proofs.lemmas.Option.{same_Some}
use Rattle.px_ends.specs.Visible.{after_adding}
use Rattle.px_ends.specs.Whole.{AddsFront}
use Rattle.px_ends.specs.declared.whole.WriteFailed.{WriteFailed}
use Rattle.px_ends.proofs.VisibleBytes.{adding_nothing, adding_both}
use Rattle.px_app.specs.declared.ending.Ending.{Ending}
use Rattle.px_app.specs.declared.ending.Ending.TheVariants as ending
use Rattle.px_app.specs.declared.refusal.Refusal.{Refusal}
use Rattle.px_app.specs.Ends.{Ends, Grew, ends_of}
use Rattle.px_header.specs.declared.header.Header.{Header}
use Rattle.px_session.specs.declared.event.Event.{Event}
use Rattle.px_session.specs.Reader.{place_with}
use Rattle.px_ends.specs.Pieces.{Waiting}
use Rattle.px_app.specs.declared.playing.Playing.{Playing}
use Rattle.px_app.specs.Mode.{Mode, parts_by, output_by}
use Rattle.px_app.specs.Session.{Before, IsRefused}
use Rattle.px_app.specs.Played.{GivenBefore, Gives, PlayedFront, InputPlayed}
use Rattle.px_app.specs.Stage.{AddsPart}
use Rattle.px_app.specs.Step.{Reached, ending_with}
use Rattle.px_app.proofs.FrontLaws.{whole_front, no_front}

-- ---- bytes that are gathered

-- what was added to the bytes that wait was added behind what is held
pub gathered : (old new part : List ℕ) (held : Option (List ℕ)) → (let now : Option (List ℕ) = Some new in now) ≡ after_adding (Some old) part → after_adding held new ≡ after_adding (after_adding held old) part
gathered old new part held e = ap (after_adding held) (same_Some new (old ++ part) e) ∙ sym (adding_both old part held)

pub gathered_front : (old new part : List ℕ) (held : Option (List ℕ)) → AddsFront part (Some old) (Some new) → AddsFront part (after_adding held old) (after_adding held new)
gathered_front old new part held cut = record { front = cut.front; rest = cut.rest; joined = cut.joined; held = gathered old new cut.front held cut.held }

pub gathered_part : {B E : Type 0} (r : Result B E) (old new part : List ℕ) (held : Option (List ℕ)) → AddsPart r part (Some old) (Some new) → AddsPart r part (after_adding held old) (after_adding held new)
gathered_part (Ok done) old new part held adds = gathered old new part held adds
gathered_part (Err e) old new part held adds = gathered_front old new part held adds

-- ---- growth

pub grew_more : (first mid now : Option (List ℕ)) (bytes : List ℕ) → Grew first mid → now ≡ after_adding mid bytes → Grew first now
grew_more first mid now bytes grew is = (grew.0 ++ bytes, is ∙ ap (λ (m : Option (List ℕ)). after_adding m bytes) grew.1 ∙ adding_both grew.0 bytes first)

pub grew_first : (first : Option (List ℕ)) → Grew first first
grew_first first = ([], sym (adding_nothing first))

-- ---- a front of what waits

-- what was held before, what was written of it since, what waits: a front of that was written, and all of it together is a front of what is given
module _ (given waiting front rest : List ℕ) where
  cut_visible : (b : List ℕ) (grown : List ℕ) (all more : List ℕ) → given ≡ all ++ more → (b ++ grown) ++ waiting ≡ b ++ all → waiting ≡ front ++ rest → given ≡ (grown ++ front) ++ (rest ++ more)
  cut_visible b grown all more joined same split =
      let whole : grown ++ waiting ≡ all = append_cancel_left b (grown ++ waiting) all (sym (append_assoc b grown waiting) ∙ same) in
      joined
      ∙ ap (λ (t : List ℕ). t ++ more) (sym whole)
      ∙ ap (λ (t : List ℕ). (grown ++ t) ++ more) split
      ∙ ap (λ (t : List ℕ). t ++ more) (sym (append_assoc grown front rest))
      ∙ append_assoc (grown ++ front) rest more

pub front_cut : (given waiting : List ℕ) (first held now : Option (List ℕ)) → Grew first held → AddsFront given first (after_adding held waiting) → AddsFront waiting held now → AddsFront given first now
front_cut given waiting None held now grew all cut = record {
  front = [];
  rest = given;
  joined = refl;
  held = cut.held ∙ ap (λ (h : Option (List ℕ)). after_adding h cut.front) grew.1;
}
front_cut given waiting (Some b) held now grew all cut =
    let visible : Some ((b ++ grew.0) ++ waiting) ≡ Some (b ++ all.front) = sym (ap (λ (h : Option (List ℕ)). after_adding h waiting) grew.1) ∙ all.held in
    record {
      front = grew.0 ++ cut.front;
      rest = cut.rest ++ all.rest;
      joined = cut_visible given waiting cut.front cut.rest b grew.0 all.front all.rest all.joined (same_Some ((b ++ grew.0) ++ waiting) (b ++ all.front) visible) cut.joined;
      held = cut.held ∙ ap (λ (h : Option (List ℕ)). after_adding h cut.front) grew.1 ∙ adding_both grew.0 cut.front (Some b);
    }

-- ---- however it ended

module _ {W A L : Type 0} (mode : Mode W A L) where
  refused_gives : (asked : A) (bytes : List ℕ) (left : Option (List ℕ)) (refusal : Refusal) (behind : Before) (given : List ℕ) → IsRefused mode.course bytes refusal behind → GivenBefore mode asked behind given → Gives mode asked bytes left given
  refused_gives asked bytes left refusal behind given (inl none) gives = inl (subst (λ (b : Before). GivenBefore mode asked b given) none.1 gives)
  refused_gives asked bytes left refusal behind given (inr s) gives =
      let g = subst (λ (b : Before). GivenBefore mode asked b given) s.5 gives in
      inr (inl (s.0, s.1, s.2, g.0, s.3, g.1, g.2))

  -- however it ended, the output gained a front of what the bytes that were read give
  pub front_of : (asked : A) (ended : Ending) (before after : Ends) → InputPlayed mode asked ended before after → PlayedFront mode asked before after
  front_of asked ending.Done before after p = record {
    bytes = p.bytes;
    given = output_by mode p.look p.header p.events;
    departed = p.departed;
    gives = inr (inr (p.header, p.events, p.look, p.played, p.at_end, p.looks, refl));
    gained = whole_front (output_by mode p.look p.header p.events) before.held after.held p.gained;
  }
  front_of asked (ending.Refused refusal) before after p = record {
    bytes = p.bytes;
    given = p.given;
    departed = p.departed;
    gives = refused_gives asked p.bytes after.left refusal p.behind p.given p.refused p.gives;
    gained = whole_front p.given before.held after.held p.gained;
  }
  front_of asked ending.NoSuchSink before after p = record { bytes = p.bytes; given = []; departed = p.departed; gives = inl refl; gained = no_front [] before.held after.held p.gained }
  front_of asked ending.Memory before after p = p
  front_of asked ending.ReadFault before after p = p
  front_of asked ending.WriteFault before after p = p
  front_of asked ending.Usage before after p = absurd p

  module _ (asked : A) (first : Ends) (left held now : Option (List ℕ)) (read written : ℕ) (waiting : List ℕ) where
    pub wrote_all : (ended : Ending) → now ≡ after_adding held waiting → InputPlayed mode asked ended first (ends_of left read (after_adding held waiting) written) → InputPlayed mode asked ended first (ends_of left read now written)
    wrote_all ended is played = subst (λ (h : Option (List ℕ)). InputPlayed mode asked ended first (ends_of left read h written)) (sym is) played

    pub wrote_front : (ended : Ending) → Grew first.held held → AddsFront waiting held now → InputPlayed mode asked ended first (ends_of left read (after_adding held waiting) written) → PlayedFront mode asked first (ends_of left read now written)
    wrote_front ended grew cut played =
        let p = front_of asked ended first (ends_of left read (after_adding held waiting) written) played in
        record { bytes = p.bytes; given = p.given; departed = p.departed; gives = p.gives; gained = front_cut p.given waiting first.held held now grew p.gained cut }

    pub ends_all : (ended : Ending) → now ≡ after_adding held waiting → InputPlayed mode asked ended first (ends_of left read (after_adding held waiting) written) → InputPlayed mode asked (ending_with ended true) first (ends_of left read now written)
    ends_all ending.ReadFault is played = wrote_all ending.ReadFault is played
    ends_all ending.Done is played = wrote_all ending.Done is played
    ends_all (ending.Refused refusal) is played = wrote_all (ending.Refused refusal) is played
    ends_all ending.NoSuchSink is played = wrote_all ending.NoSuchSink is played
    ends_all ending.Memory is played = wrote_all ending.Memory is played
    ends_all ending.WriteFault is played = wrote_all ending.WriteFault is played
    ends_all ending.Usage is played = wrote_all ending.Usage is played

    pub ends_cut : (ended : Ending) → Grew first.held held → AddsFront waiting held now → InputPlayed mode asked ended first (ends_of left read (after_adding held waiting) written) → InputPlayed mode asked (ending_with ended false) first (ends_of left read now written)
    ends_cut ending.ReadFault grew cut played = wrote_front ending.ReadFault grew cut played
    ends_cut ending.Done grew cut played = wrote_front ending.Done grew cut played
    ends_cut (ending.Refused refusal) grew cut played = wrote_front (ending.Refused refusal) grew cut played
    ends_cut ending.NoSuchSink grew cut played = wrote_front ending.NoSuchSink grew cut played
    ends_cut ending.Memory grew cut played = wrote_front ending.Memory grew cut played
    ends_cut ending.WriteFault grew cut played = wrote_front ending.WriteFault grew cut played
    ends_cut ending.Usage grew cut played = wrote_front ending.Usage grew cut played

    -- by what the flush answered
    pub ends_by : (ended : Ending) (r : Result Unit WriteFailed) → OnOk r (now ≡ after_adding held waiting) → OnErr r (AddsFront waiting held now) → Grew first.held held → InputPlayed mode asked ended first (ends_of left read (after_adding held waiting) written) → InputPlayed mode asked (ending_with ended (is_ok r)) first (ends_of left read now written)
    ends_by ended (Ok done) all cut grew played = ends_all ended all played
    ends_by ended (Err failed) all cut grew played = ends_cut ended grew cut played

-- ---- a run that goes on

module _ {T W A L : Type 0} (mode : Mode W A L) (stands : T → L → Header → List Event → Type 0) where
  module _ (asked : A) (playing : Playing T) (first : Ends) (left held now : Option (List ℕ)) (read written : ℕ) where
    -- what waited was written
    pub reached_flushed : (pieces : Waiting) → now ≡ after_adding held playing.pieces.bytes → pieces.bytes ≡ [] → Reached mode stands asked playing first (ends_of left read (after_adding held playing.pieces.bytes) written) → Reached mode stands asked (record playing { pieces = pieces }) first (ends_of left read (after_adding now pieces.bytes) written)
    reached_flushed pieces is empty r = record {
      bytes = r.bytes;
      header = r.header;
      events = r.events;
      look = r.look;
      departed = r.departed;
      begins = r.begins;
      begun = r.begun;
      looks = r.looks;
      stage = r.stage;
      gained = ap (after_adding now) empty ∙ adding_nothing now ∙ is ∙ r.gained;
    }

    -- or a front of it
    pub reached_cut : Grew first.held held → AddsFront playing.pieces.bytes held now → Reached mode stands asked playing first (ends_of left read (after_adding held playing.pieces.bytes) written) → PlayedFront mode asked first (ends_of left read now written)
    reached_cut grew cut r =
        let parts = parts_by mode r.look r.header r.events in
        record {
          bytes = r.bytes;
          given = parts;
          departed = r.departed;
          gives = inr (inl (r.header, r.events, place_with playing.reader playing.reader.ahead, r.look, r.begins, r.looks, refl));
          gained = front_cut parts playing.pieces.bytes first.held held now grew (whole_front parts first.held (after_adding held playing.pieces.bytes) r.gained) cut;
        }

-- what a failed flush says
pub failed_says : (r : Result Unit WriteFailed) (P : Type 0) → is_err r ≡ true → OnErr r P → P
failed_says (Ok done) P failed says = absurd (false≢true failed)
failed_says (Err e) P failed says = says

pub flushed_says : (r : Result Unit WriteFailed) (P : Type 0) → is_err r ≡ false → OnOk r P → P
flushed_says (Ok done) P flushed says = says
flushed_says (Err e) P flushed says = absurd (false≢true (sym flushed))
