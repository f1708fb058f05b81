-- Each kind of step keeps the rule of a mailbox.
use Rattle.std.proofs.Common.{◌≡◌, ◌≢◌, ℕ, zero, suc, true, false, true≢false, List, [], ◌∷◌, ◌++◌, length, set, sym, refl, ap, ◌∙◌, subst, ⊎_elim, append_assoc, Option, None}
use mathlib.Core.Option.{some, some-ne-none}
use lib.ListN.{get_elem?}
use Rattle.crossbeam_queue.specs.Fifo.{Pushes, Pops, Forks, Merges, Learns}
use Rattle.crossbeam_queue.proofs.Lists.{at_set, at_snoc}
use Rattle.px_mail.specs.declared.step.Account.{Account}
use Rattle.px_mail.specs.Mailbox.{unkeyed, poster, taker, closer, idle, after_posting, after_taking, IsHeldOf, Fits, IsLawful, GoesOn, Delivers}

module _ {A : Type 0} where
  at_end : (l : List A) (a b : A) (j : ℕ) → get_elem? l j ≢ some b → get_elem? (l ++ a ∷ []) j ≡ some b → j ≡ length l
  at_end [] a b zero n e = refl
  at_end [] a b (suc j) n e = absurd (some-ne-none b (sym e))
  at_end (x ∷ xs) a b zero n e = absurd (n e)
  at_end (x ∷ xs) a b (suc j) n e = ap suc (at_end xs a b j n e)

  abbrev Each : (ℕ → A → Type 0) → List A → Type 0
  Each F views = (port : ℕ) (v : A) → get_elem? views port ≡ some v → F port v

  each_set : (F : ℕ → A → Type 0) (views : List A) (port : ℕ) (w : A) → F port w → ((j : ℕ) (u : A) → j ≢ port → get_elem? views j ≡ some u → F j u) → Each F (set views port w)
  each_set F views port w mine others j u e = ⊎_elim (λ (x : (j ≡ port) × (w ≡ u)). subst (λ (y : ℕ × A). F y.0 y.1) (λ i. (sym x.0 i, x.1 i)) mine)
      (λ (x : (j ≢ port) × (get_elem? views j ≡ some u)). others j u x.0 x.1) (at_set views port j w u e)

  only_one : (F : ℕ → A → Type 0) (w : A) → F 0 w → Each F (w ∷ [])
  only_one F w mine = each_set F (w ∷ []) 0 w mine (λ j u other e. absurd (other (at_end [] w u j (λ x. some-ne-none u (sym x)) e)))

module _ {T K : Type 0} (lawful : K → List T → Type 0) where
  pub opens : Delivers lawful [] (unkeyed ∷ [])
  opens = (0, 0, None, [], [], refl, tt, only_one (Fits 0 0 None [] []) unkeyed ((λ _. (refl, refl, refl)), λ _. (refl, refl, refl)))

  pub posts : (n port : ℕ) (v : Account T K) (x : T) → v.posts ≡ true → IsLawful lawful v.key (v.posted ++ x ∷ []) → Pushes (Delivers lawful) n port v x (λ w. w ≡ after_posting v x)
  posts n port v x may fine items views _ h at =
      let w : Account T K = after_posting v x in
      let mine = h.7 port v at in
      let is = mine.0 may in
      let posted = h.3 ++ x ∷ [] in (
        w,
        (
          h.0,
          h.1,
          h.2,
          posted,
          h.4,
          ap (λ l. l ++ x ∷ []) h.5 ∙ append_assoc h.4 items (x ∷ []),
          subst (λ (y : Option K × List T). IsLawful lawful y.0 (y.1 ++ x ∷ [])) (λ i. (is.1 i, is.2 i)) fine,
          each_set (Fits h.0 h.1 h.2 posted h.4) views port w ((λ _. (is.0, is.1, ap (λ l. l ++ x ∷ []) is.2)), mine.1)
              (λ j u other e. ((λ p. absurd (other (((h.7 j u e).0 p).0 ∙ sym is.0))), (h.7 j u e).1)),
        ),
        refl,
      )

  -- what a poster knows of what is held
  pub fills : (port : ℕ) (v : Account T K) → v.posts ≡ true → Learns (Delivers lawful) port v (λ held. IsHeldOf v.posted held)
  fills port v may items views h at = (h.4, ((h.7 port v at).0 may).2 ∙ h.5)

  pub takes : (port : ℕ) (v : Account T K) → v.takes ≡ true → Pops (Delivers lawful) port v (λ x w. (w ≡ after_taking v x) × GoesOn lawful v.key (v.taken ++ x ∷ []))
  takes port v may x items views h at =
      let w : Account T K = after_taking v x in
      let mine = h.7 port v at in
      let is = mine.1 may in
      let taken = h.4 ++ x ∷ [] in
      let goes : h.3 ≡ taken ++ items = h.5 ∙ sym (append_assoc h.4 (x ∷ []) items) in (
        w,
        (
          h.0,
          h.1,
          h.2,
          h.3,
          taken,
          goes,
          h.6,
          each_set (Fits h.0 h.1 h.2 h.3 taken) views port w (mine.0, λ _. (is.0, is.1, ap (λ l. l ++ x ∷ []) is.2))
              (λ j u other e. ((h.7 j u e).0, λ p. absurd (other (((h.7 j u e).1 p).0 ∙ sym is.0)))),
        ),
        (refl, (items, subst (λ (y : Option K × List T). IsLawful lawful y.0 y.1) (λ i. (sym is.1 i, (goes ∙ ap (λ l. (l ++ x ∷ []) ++ items) (sym is.2)) i)) h.6)),
      )

  -- what a taker knows of what is held
  pub empties : (port : ℕ) (v : Account T K) → v.takes ≡ true → Learns (Delivers lawful) port v (λ held. IsLawful lawful v.key (v.taken ++ held))
  empties port v may items views h at = let is = (h.7 port v at).1 may in subst (λ (y : Option K × List T). IsLawful lawful y.0 y.1) (λ i. (sym is.1 i, (h.5 ∙ ap (λ l. l ++ items) (sym is.2)) i)) h.6

  pub makes_post : (port : ℕ) (v : Account T K) (key : Option K) → v.posts ≡ true → v.takes ≡ true → IsLawful lawful key v.posted → Forks (Delivers lawful) port v (taker key v.taken) (poster key v.posted)
  makes_post port v key a b fine items views h at =
      let l : Account T K = taker key v.taken in
      let r : Account T K = poster key v.posted in
      let mine = h.7 port v at in
      let vs : List (Account T K) = set views port l in
      let Old : ℕ → Account T K → Type 0 = λ j u. (u.posts ≢ true) × (u.takes ≡ true → (j ≡ h.1) × (u.key ≡ key) × (u.taken ≡ h.4)) in
      let old : Each Old vs = each_set Old views port l ((λ p. true≢false (sym p)), λ _. ((mine.1 b).0, refl, (mine.1 b).2))
      (λ j u other e. ((λ p. other (((h.7 j u e).0 p).0 ∙ sym (mine.0 a).0)), λ p. absurd (other (((h.7 j u e).1 p).0 ∙ sym (mine.1 b).0)))) in (
        length vs,
        h.1,
        key,
        h.3,
        h.4,
        h.5,
        subst (λ l. IsLawful lawful key l) (mine.0 a).2 fine,
        λ j u e. ⊎_elim (λ x. ((λ p. absurd ((old j u x).0 p)), (old j u x).1))
            (λ (is : r ≡ u). (
              (λ p. (at_end vs r u j (λ x. (old j u x).0 p) e, ap (λ (y : Account T K). y.key) (sym is), ap (λ (y : Account T K). y.posted) (sym is) ∙ (mine.0 a).2)),
              λ p. absurd (true≢false (sym (ap (λ (y : Account T K). y.takes) is ∙ p))),
            )) (at_snoc vs r u j e),
      )

  pub makes_take : (port : ℕ) (v : Account T K) → v.posts ≡ false → v.takes ≡ true → Forks (Delivers lawful) port v idle (taker v.key v.taken)
  makes_take port v a b items views h at =
      let l : Account T K = idle in
      let r : Account T K = taker v.key v.taken in
      let mine = h.7 port v at in
      let vs : List (Account T K) = set views port l in
      let Old : ℕ → Account T K → Type 0 = λ j u. (u.posts ≡ true → (j ≡ h.0) × (u.key ≡ h.2) × (u.posted ≡ h.3)) × (u.takes ≢ true) in
      let old : Each Old vs = each_set Old views port l ((λ p. absurd (true≢false (sym p))), λ p. true≢false (sym p))
      (λ j u other e. ((h.7 j u e).0, λ p. other (((h.7 j u e).1 p).0 ∙ sym (mine.1 b).0))) in (
        h.0,
        length vs,
        h.2,
        h.3,
        h.4,
        h.5,
        h.6,
        λ j u e. ⊎_elim (λ x. ((old j u x).0, λ p. absurd ((old j u x).1 p)))
            (λ (is : r ≡ u). (
              (λ p. absurd (true≢false (sym (ap (λ (y : Account T K). y.posts) is ∙ p)))),
              λ p. (at_end vs r u j (λ x. (old j u x).1 p) e, ap (λ (y : Account T K). y.key) (sym is) ∙ (mine.1 b).1, ap (λ (y : Account T K). y.taken) (sym is) ∙ (mine.1 b).2),
            )) (at_snoc vs r u j e),
      )

  -- what a pass writes down of its own calls is its own affair
  pub notes : (port : ℕ) (v w : Account T K) → w.posts ≡ v.posts → w.takes ≡ v.takes → w.key ≡ v.key → w.posted ≡ v.posted → w.taken ≡ v.taken → Forks (Delivers lawful) port v w idle
  notes port v w may_post may_take key posted taken items views h at =
      let mine = h.7 port v at in
      let vs : List (Account T K) = set views port w in
      let all : Each (Fits h.0 h.1 h.2 h.3 h.4) vs = each_set (Fits h.0 h.1 h.2 h.3 h.4) views port w (
        (λ p. let is = mine.0 (sym may_post ∙ p) in (is.0, key ∙ is.1, posted ∙ is.2)),
        λ p. let is = mine.1 (sym may_take ∙ p) in (is.0, key ∙ is.1, taken ∙ is.2),
      ) (λ j u other e. h.7 j u e) in (
        h.0,
        h.1,
        h.2,
        h.3,
        h.4,
        h.5,
        h.6,
        λ j u e. ⊎_elim (λ x. all j u x)
            (λ (is : idle ≡ u). (
              (λ p. absurd (true≢false (sym (ap (λ (y : Account T K). y.posts) is ∙ p)))),
              λ p. absurd (true≢false (sym (ap (λ (y : Account T K). y.takes) is ∙ p))),
            )) (at_snoc vs idle u j e),
      )

  pub merges : (port : ℕ) (v : Account T K) (other : ℕ) (u : Account T K) → v.posts ≡ true → u.takes ≡ true → Merges (Delivers lawful) port v other u (closer v.key v.posted u.taken) idle
  merges port v other u a b items views h at two at' =
      let both : Account T K = closer v.key v.posted u.taken in
      let mine = h.7 port v at in
      let is = mine.0 a in
      let vs : List (Account T K) = set views port both in
      let was : get_elem? views other ≡ some u = ⊎_elim (λ x. absurd (two x.0)) (λ x. x.1) (at_set views port other both u at') in
      let theirs = (h.7 other u was).1 b in
      let Now : ℕ → Account T K → Type 0 = λ j y. j ≢ other → Fits h.0 port h.2 h.3 h.4 j y in
      let now : Each Now vs = each_set Now views port both (λ _. ((λ _. is), λ _. (refl, is.1, theirs.2)))
      (λ j y _ e apart. ((h.7 j y e).0, λ p. absurd (apart (((h.7 j y e).1 p).0 ∙ sym theirs.0)))) in
      (h.0, port, h.2, h.3, h.4, h.5, h.6, each_set (Fits h.0 port h.2 h.3 h.4) vs other idle ((λ p. absurd (true≢false (sym p))), λ p. absurd (true≢false (sym p))) (λ j y apart e. now j y e apart))

  pub totals : (port : ℕ) (v : Account T K) → v.posts ≡ true → v.takes ≡ true → Learns (Delivers lawful) port v (λ held. (v.posted ≡ v.taken ++ held) × IsLawful lawful v.key v.posted)
  totals port v a b items views h at =
      let mine = h.7 port v at in
      let p = mine.0 a in
      let t = mine.1 b in
      (p.2 ∙ h.5 ∙ ap (λ l. l ++ items) (sym t.2), subst (λ (y : Option K × List T). IsLawful lawful y.0 y.1) (λ i. (sym p.1 i, sym p.2 i)) h.6)
