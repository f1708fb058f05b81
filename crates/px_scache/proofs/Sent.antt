-- The packets of the answers fit frames.
use Rattle.std.proofs.Common.{arith, ◌≡◌, ℕ, ◌++◌, length, refl}
use Rattle.px_tag.specs.Item.{number}
use Rattle.px_reply.specs.Front.{reply_to, refusal}
use Rattle.px_scache.specs.Answers.{IsCarried}

reply_size : (tag : ℕ) → length (reply_to tag) ≡ 10
unfolding number
reply_size tag = refl

created_size : (tag stream bytes : ℕ) → length (reply_to tag ++ number stream ++ number bytes) ≡ 20
unfolding number
created_size tag stream bytes = refl

refusal_size : (tag code : ℕ) → length (refusal tag code) ≡ 15
unfolding number
refusal_size tag code = refl

pub reply_carried : (tag : ℕ) → IsCarried (reply_to tag)
reply_carried tag = record { some = omega (arith, reply_size tag); few = omega (arith, reply_size tag) }

pub created_carried : (tag stream bytes : ℕ) → IsCarried (reply_to tag ++ number stream ++ number bytes)
created_carried tag stream bytes = record { some = omega (arith, created_size tag stream bytes); few = omega (arith, created_size tag stream bytes) }

pub refusal_carried : (tag code : ℕ) → IsCarried (refusal tag code)
refusal_carried tag code = record { some = omega (arith, refusal_size tag code); few = omega (arith, refusal_size tag code) }
