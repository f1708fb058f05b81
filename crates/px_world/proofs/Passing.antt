-- A decoder that doesn't stand between two frames passes over none, and its door stays as it is.
use Rattle.std.proofs.Common.{◌≡◌, ℕ, ◌+◌, Bool, true, false, cond, [], ◌∷◌, None, Some, List, refl, ap, option_map, ◌∙◌, sym}
use Rattle.std.specs.Ordering.{nat_cmp}
use Rattle.std.specs.BTreeMap.{is_at}
use Rattle.std.specs.Map.{lookup, set_value}
use Rattle.std.proofs.lemmas.Option.{none-some, same_Some}
use Rattle.px_types.specs.declared.ids.ConnId.{ConnId}
use Rattle.px_frame.specs.Frame.{offset_at}
use Rattle.px_frame.specs.Progress.{Progress, Within, Stopped, Lost, next_start, passed_over}
use Rattle.px_world.specs.Running.{decoder_of}

pub stays-there : (p : Progress) (size : ℕ) → None ≡ option_map (λ (start : ℕ). offset_at (start + 20)) (next_start p) → passed_over size p ≡ p
stays-there (Within start []) size e = absurd (none-some _ e)
stays-there (Within start (byte ∷ held)) size e = refl
stays-there (Stopped fault at) size e = refl
stays-there Lost size e = refl

-- a value that is written where it stands changes nothing
set-same : {X : Type 0} (test : ℕ → Bool) (entries : List (ℕ × X)) (x : X) → lookup test entries ≡ Some x → set_value test entries x ≡ entries
set-same test [] x e = absurd (none-some x e)
set-same {X} test (entry ∷ entries) x e = go (test entry.0) e (set-same test entries x)
  where
    go : (b : Bool) → cond b (Some entry.1) (lookup test entries) ≡ Some x → (lookup test entries ≡ Some x → set_value test entries x ≡ entries)
        → cond b ((entry.0, x) ∷ entries) (entry ∷ set_value test entries x) ≡ entry ∷ entries
    go true found rest = ap (λ (y : X). (entry.0, y) ∷ entries) (sym (same_Some entry.1 x found))
    go false found rest = ap (λ es. entry ∷ es) (rest found)

pub unmoved : (doors later : List (ℕ × Progress)) (conn : ConnId) (decoder next : Progress) → decoder_of doors conn ≡ Some decoder
    → later ≡ set_value (is_at (nat_cmp conn.0)) doors next → next ≡ decoder → later ≡ doors
unmoved doors later conn decoder next was written same =
    written ∙ ap (set_value (is_at (nat_cmp conn.0)) doors) same ∙ set-same (is_at (nat_cmp conn.0)) doors decoder was
