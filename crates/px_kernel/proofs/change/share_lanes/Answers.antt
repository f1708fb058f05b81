use Rattle.std.proofs.Common.{ℕ, ◌+◌, ◌<◌, arith, pos, get_or, FitsSigned, w32}
use Rattle.px_kernel.proofs.Shares.{lane_product_fits, lane_is, four_same}
use Rattle.px_kernel.proofs.change.share_lanes.Goals as goal

pub overflow_mul-result : goal.overflow_mul-result
overflow_mul-result c =
    let values = c.args.values.now in
    let from = c.args.from in
    let factor = c.args.factor in
    let here : FitsSigned w32 (get_or values from (pos 0)) = c.requires.words from (omega arith) (omega (arith, c.requires.inside)) in
    let fits : (i : ℕ) → i < 4 → FitsSigned w32 (get_or values (from + i) (pos 0)) =
    λ i less. c.requires.words (from + i) (omega arith) (omega (arith, less, c.requires.inside)) in
    (lane_product_fits (get_or values from (pos 0)) factor here c.requires.small, (lane_product_fits (get_or values (from + 1) (pos 0)) factor (fits 1 (omega arith)) c.requires.small, (lane_product_fits (get_or values (from + 2) (pos 0)) factor (fits 2 (omega arith)) c.requires.small, (lane_product_fits (get_or values (from + 3) (pos 0)) factor (fits 3 (omega arith)) c.requires.small, tt))))

pub returns : goal.returns
returns c =
    let values = c.args.values.now in
    let from = c.args.from in
    let factor = c.args.factor in
    let here : FitsSigned w32 (get_or values from (pos 0)) = c.requires.words from (omega arith) (omega (arith, c.requires.inside)) in
    let fits : (i : ℕ) → i < 4 → FitsSigned w32 (get_or values (from + i) (pos 0)) =
    λ i less. c.requires.words (from + i) (omega arith) (omega (arith, less, c.requires.inside)) in
    four_same
    (lane_is (get_or values from (pos 0)) factor here c.requires.small)
    (lane_is (get_or values (from + 1) (pos 0)) factor (fits 1 (omega arith)) c.requires.small)
    (lane_is (get_or values (from + 2) (pos 0)) factor (fits 2 (omega arith)) c.requires.small)
    (lane_is (get_or values (from + 3) (pos 0)) factor (fits 3 (omega arith)) c.requires.small)
