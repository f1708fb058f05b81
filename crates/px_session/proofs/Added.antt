-- Pieces that are written one behind the other.
use Rattle.std.proofs.Common.{◌≡◌, ℕ, suc, ◌+◌, ◌<◌, List, [], ◌∷◌, ◌++◌, length, get_or, take, drop, Option, refl, sym, ap, ◌∙◌, append_assoc}
use Rattle.std.proofs.Math.Seq.{drop-cons}
use Rattle.std.proofs.lemmas.List.{take-append-drop, append-nil, take_more}
use Rattle.std.proofs.lemmas.Grind.{flat_map-append}
use Rattle.std.specs.List.{flat_map}
use Rattle.px_ends.specs.Visible.{after_adding}
use Rattle.px_ends.specs.Whole.{AddsFront}
use Rattle.px_ends.proofs.VisibleBytes.{adding_both, adding_nothing}
use Rattle.px_header.specs.declared.header.SinkSpec.{SinkSpec}
use Rattle.px_header.specs.declared.header.Header.{Header}
use Rattle.px_session.specs.declared.form.Form.{Form}
use Rattle.px_session.specs.Spelling.{magic, sink, header}

-- a front of the second piece was written behind the first, so a front of the whole was
pub front_then : (done piece more whole : List ℕ) (old mid new : Option (List ℕ)) → mid ≡ after_adding old done → AddsFront piece mid new → whole ≡ done ++ (piece ++ more) → AddsFront whole old new
front_then done piece more whole old mid new first second joined = record {
  front = done ++ second.front;
  rest = second.rest ++ more;
  joined = joined
      ∙ ap (λ (p : List ℕ). done ++ (p ++ more)) second.joined
      ∙ ap (λ (t : List ℕ). done ++ t) (append_assoc second.front second.rest more)
      ∙ sym (append_assoc done second.front (second.rest ++ more));
  held = second.held ∙ ap (λ (m : Option (List ℕ)). after_adding m second.front) first ∙ adding_both done second.front old;
}

-- the second piece was written behind the first
pub both_added : (done piece : List ℕ) (old mid new : Option (List ℕ)) → mid ≡ after_adding old done → new ≡ after_adding mid piece → new ≡ after_adding old (done ++ piece)
both_added done piece old mid new first second =
    second ∙ ap (λ (m : Option (List ℕ)). after_adding m piece) first ∙ adding_both done piece old

module _ {X : Type 0} (f : X → List ℕ) where
  -- the pieces up to the next place
  pub flat_map_up_to : (xs : List X) (i : ℕ) (d : X) → i < length xs → flat_map f (take i xs) ++ f (get_or xs i d) ≡ flat_map f (take (i + 1) xs)
  flat_map_up_to xs i d inside =
      sym (ap (λ (front : List X). flat_map f front) (take_more xs i d inside)
      ∙ flat_map-append f (take i xs) (get_or xs i d ∷ [])
      ∙ ap (λ (last : List ℕ). flat_map f (take i xs) ++ last) (append-nil (f (get_or xs i d))))

  -- the pieces before a place, the one at it, and those behind it
  pub flat_map_around : (xs : List X) (i : ℕ) (d : X) → i < length xs → flat_map f xs ≡ flat_map f (take i xs) ++ (f (get_or xs i d) ++ flat_map f (drop (suc i) xs))
  flat_map_around xs i d inside =
      ap (λ (all : List X). flat_map f all) (sym (take-append-drop i xs))
      ∙ flat_map-append f (take i xs) (drop i xs)
      ∙ ap (λ (rest : List X). flat_map f (take i xs) ++ flat_map f rest) (drop-cons xs i d inside)

-- what stands before the sinks of a header, piece by piece
abbrev pub head_of : List ℕ → List ℕ → ℕ → List ℕ
head_of word cookie count = word ++ (cookie ++ (count ∷ []))

header_regrouped : (form : Form) (h : Header) → head_of (magic form) h.cookie (length h.sinks) ++ flat_map sink h.sinks ≡ header form h
unfolding header
header_regrouped form h = ap (λ (rest : List ℕ). magic form ++ rest) (append_assoc h.cookie (length h.sinks ∷ []) (flat_map sink h.sinks))

module _ (form : Form) (h : Header) (word cookie : List ℕ) (count : ℕ) (word_is : word ≡ magic form) (cookie_is : cookie ≡ h.cookie) (count_is : count ≡ length h.sinks) where
  head_is : (sinks : List SinkSpec) → sinks ≡ h.sinks → head_of word cookie count ++ flat_map sink sinks ≡ header form h
  head_is sinks sinks_is =
      ap (λ (w : List ℕ). head_of w cookie count ++ flat_map sink sinks) word_is
      ∙ ap (λ (c : List ℕ). head_of (magic form) c count ++ flat_map sink sinks) cookie_is
      ∙ ap (λ (n : ℕ). head_of (magic form) h.cookie n ++ flat_map sink sinks) count_is
      ∙ ap (λ (ss : List SinkSpec). head_of (magic form) h.cookie (length h.sinks) ++ flat_map sink ss) sinks_is
      ∙ header_regrouped form h

  -- a header was written: what stands before the sinks, and then these
  pub header_added : (sinks : List SinkSpec) (old mid new : Option (List ℕ)) → sinks ≡ h.sinks → mid ≡ after_adding old (head_of word cookie count) → new ≡ after_adding mid (flat_map sink sinks) → new ≡ after_adding old (header form h)
  header_added sinks old mid new sinks_is first second =
      both_added (head_of word cookie count) (flat_map sink sinks) old mid new first second
      ∙ ap (after_adding old) (head_is sinks sinks_is)

  -- a front of what stands before the sinks was written
  pub header_stopped : (old new : Option (List ℕ)) → AddsFront (head_of word cookie count) old new → AddsFront (header form h) old new
  header_stopped old new stopped =
      front_then [] (head_of word cookie count) (flat_map sink h.sinks) (header form h) old old new (sym (adding_nothing old)) stopped (sym (head_is h.sinks refl))

  -- a front of the sinks was written behind what stands before them
  pub sinks_stopped : (sinks : List SinkSpec) (old mid new : Option (List ℕ)) → sinks ≡ h.sinks → mid ≡ after_adding old (head_of word cookie count) → AddsFront (flat_map sink sinks) mid new → AddsFront (header form h) old new
  sinks_stopped sinks old mid new sinks_is first stopped =
      front_then (head_of word cookie count) (flat_map sink sinks) [] (header form h) old mid new first stopped
      (sym (ap (λ (rest : List ℕ). head_of word cookie count ++ rest) (append-nil (flat_map sink sinks)) ∙ head_is sinks sinks_is))
