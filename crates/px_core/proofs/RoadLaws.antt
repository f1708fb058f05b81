-- MOVE_SINK_INPUT plans a lawful change.
use Rattle.std.proofs.Common.{◌≡◌, ℕ, List, [], ◌∷◌, length, Option, Some, None, Bool, true, false, Ok, refl, ap, sym, subst, ◌∙◌}
use Rattle.std.specs.Prelude.{not, nat_eq, slice_get, IfSome, IsSome}
use Rattle.std.proofs.lemmas.Bool.{cond_both, eqb-false, ltb-true}
use Rattle.std.proofs.lemmas.Option.{same_Some, slice_get_within}
use Rattle.px_types.specs.declared.error_code.ErrorCode.TheVariants.{Busy, Invalid, NoEntity, NotSupported, TooLarge}
use Rattle.px_header.specs.declared.header.SinkSpec.{SinkSpec}
use Rattle.px_reply.specs.Front.{reply_to}
use Rattle.px_outcome.specs.declared.change.Change.TheVariants.{Moves}
use Rattle.px_outcome.specs.declared.input.Input.{Input}
use Rattle.px_outcome.specs.declared.target.Named.{Named}
use Rattle.px_outcome.specs.declared.target.Target.{Target}
use Rattle.px_outcome.specs.Input.{is_moving}
use Rattle.px_outcome.specs.Outcome.{replied}
use Rattle.px_outcome.specs.Handled.{◌>>=◌, check, present}
use Rattle.px_outcome.specs.Target.{is_clear, target_of as target_in}
use Rattle.px_ctl_play.specs.Asked.{MOST_ON_SINK}
use Rattle.px_ctl_play.specs.Move.{feed_to, has_place, sent_off, moved_to, move_input}
use Rattle.px_state.specs.State.{State, input_of, input_named, bound_for}
use Rattle.px_core.specs.Consistency.{IsFedAt, GoesTo}
use Rattle.px_core.specs.Lawful.{MayMove}
use Rattle.px_state.specs.Outcome.{CoreOutcome}
use Rattle.px_core.proofs.AnswerLaws.{IsLawful}
use Rattle.px_core.proofs.HandledLaws.{Each, each_check}
use Rattle.px_core.proofs.VerbLaws.{by_own}
use Rattle.px_core.proofs.VolumeLaws.{going_is}
use Rattle.px_sinks.proofs.Sinks.{IsThere}

module _ {P : Type 0} (state : State P) (index tag : ℕ) (named : Named) (found : (target : Target) → target_in named ≡ Some target → IsThere state.sinks target) where
  abbrev answer : CoreOutcome P
  answer = replied (reply_to tag) []

  module _ (x : Input) (here : input_of state.inputs x.index ≡ Some x) (sink : Target) (it : IsThere state.sinks sink) (apart : nat_eq x.sink.0 sink.index.0 ≡ false) where
    fed_there : (feed : List ℕ) → feed_to x sink.map ≡ Some feed → (s : SinkSpec) → slice_get state.sinks sink.index.0 ≡ Some s → IsFedAt x s
    fed_there feed fed s e =
        let same : sink.map ≡ s.map = ap (λ (t : Target). t.map) it.is ∙ ap (λ (z : SinkSpec). z.map) (same_Some it.sink s (sym it.there ∙ e)) in
        subst (λ (positions : List ℕ). IsSome (feed_to x positions)) same (subst IsSome (sym fed) refl)

    goes : (feed : List ℕ) → feed_to x sink.map ≡ Some feed → GoesTo state.sinks x.sink (IsFedAt x) sink.index
    goes feed fed = record {
      there = slice_get_within state.sinks sink.index.0 it.sink it.there;
      apart = λ same. eqb-false x.sink.0 sink.index.0 apart (sym same);
      fed = fed_there feed fed;
    }

    may_move : (feed : List ℕ) → feed_to x sink.map ≡ Some feed → has_place state.inputs sink.index ≡ true → MayMove state x.index sink.index
    may_move feed fed place = record {
      goes = subst (λ (o : Option Input). IfSome o (λ y. GoesTo state.sinks y.sink (IsFedAt y) sink.index)) (sym here) (goes feed fed);
      room = ltb-true (length (bound_for state.inputs sink.index)) MOST_ON_SINK place;
    }

    sends : Each (IsLawful state) (sent_off x sink state.inputs tag)
    sends =
        each_check (IsLawful state) (not x.no_move) Invalid _
        (each_check (IsLawful state) (nat_eq x.spec.rate sink.spec.rate) NotSupported _ (planned (feed_to x sink.map) refl))
      where
        placed : (feed : List ℕ) → feed_to x sink.map ≡ Some feed → (b : Bool) → has_place state.inputs sink.index ≡ b
            → Each (IsLawful state) (check b TooLarge >>= λ place. Ok (replied (reply_to tag) (Moves x.index sink.index ∷ [])))
        placed feed fed true e = (may_move feed fed e, tt)
        placed feed fed false e = tt

        planned : (o : Option (List ℕ)) → feed_to x sink.map ≡ o
            → Each (IsLawful state) (present o NotSupported >>= λ feed. check (has_place state.inputs sink.index) TooLarge >>= λ place. Ok (replied (reply_to tag) (Moves x.index sink.index ∷ [])))
        planned None e = tt
        planned (Some feed) e = placed feed e (has_place state.inputs sink.index) refl

  moves : (x : Input) → input_of state.inputs x.index ≡ Some x → (sink : Target) → IsThere state.sinks sink → Each (IsLawful state) (moved_to x sink state.inputs tag)
  moves x here sink it =
      cond_both (nat_eq x.sink.0 sink.index.0) (Ok answer) (sent_off x sink state.inputs tag) (Each (IsLawful state)) (λ same. tt) (λ apart. sends x here sink it apart)

  pub move_lawful : Each (IsLawful state) (move_input (input_named state.inputs index) named state.inputs tag)
  move_lawful = each_check (IsLawful state) (is_clear named) Invalid _ (by (input_named state.inputs index) refl (target_in named) refl)
    where
      by : (o : Option Input) → input_named state.inputs index ≡ o → (t : Option Target) → target_in named ≡ t
          → Each (IsLawful state) (present o NoEntity >>= λ x. present t NoEntity >>= λ sink. check (not (is_moving (Input.standing x))) Busy >>= λ settled. moved_to x sink state.inputs tag)
      by None e t f = tt
      by (Some x) e None f = tt
      by (Some x) e (Some sink) f =
          each_check (IsLawful state) (not (is_moving x.standing)) Busy _
          (moves x (by_own state.inputs (record { 0 = index }) x (going_is (input_of state.inputs (record { 0 = index })) x e)) sink (found sink f))
