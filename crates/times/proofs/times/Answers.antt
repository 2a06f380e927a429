-- Each field is the milliseconds of its ticks: a factor times a unit that is exact already.
-- Assumes nothing.
use Rattle.std.proofs.Common.{ℕ, ◌≡◌, refl, sym, ap, ◌∙◌, subst, arith}
use Rattle.std.proofs.Math.Nat.{mul-one}
use Rattle.std.specs.Float.Ieee.{Float, of_bits}
use Rattle.words.specs.Words.{Bytes}
use Rattle.model.specs.Frames.{idle_data}
use Rattle.model.specs.Times.{milliseconds, exactly, t_l, t_ref, t_inactive, t_to, t_osc, t_dac}
use Rattle.model.proofs.Exactness.{exact}
use Rattle.times.proofs.times.Goals as goal

-- a float that is the milliseconds of n ticks is exact where those are
on : (n : ℕ) {x : Float} → x ≡ milliseconds n → exactly (milliseconds n) n → exactly x n
on n e h = subst (λ (y : Float). exactly y n) (sym e) h

pub returns : goal.returns
unfolding t_l t_ref t_inactive t_to t_osc t_dac of_bits
returns c =
    let s = c.args.s in
    let all : Bytes (idle_data s) = omega arith in
    let known = exact s all in
    let power = c.power in
    let low : c.scaled-low.result ≡ milliseconds (t_l s) = c.scaled-low.ensures 1 (refl, refl) ∙ ap milliseconds (mul-one power.result ∙ power.ensures.0) in
    let unit : exactly c.scaled-low.result (t_l s) = on (t_l s) low known.low in
    let reference : c.scaled-reference.result ≡ milliseconds (t_ref s) = c.scaled-reference.ensures (t_l s) unit in
    let inactive : c.scaled-inactive.result ≡ milliseconds (t_inactive s) = c.scaled-inactive.ensures (t_ref s) (on (t_ref s) reference known.reference) in
    let timeout : c.scaled.result ≡ milliseconds (t_to s) = c.scaled.ensures (t_inactive s) (on (t_inactive s) inactive known.inactive) in
    let osc : c.scaled-2.result ≡ milliseconds (t_osc s) = c.scaled-2.ensures (t_l s) unit in
    let dac : c.scaled-3.result ≡ milliseconds (t_dac s) = c.scaled-3.ensures (t_l s) unit in
    λ i. record { low = low i; reference = reference i; inactive = inactive i; timeout = timeout i; osc = osc i; dac = dac i }
