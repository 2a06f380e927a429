-- Times and waits that are known or refused, as text: what the code writes of the model's answer is the answer's text.
-- Assumes nothing.
use Rattle.std.proofs.Common.{◌≡◌, ℕ, Bool, true, false, List, [], ◌∷◌, ◌++◌, sym, refl, ap, ◌∙◌, Err, Ok, Result}
use Rattle.model.specs.declared.Settings.{Settings}
use Rattle.model.specs.declared.Refusal.TheVariants.{Invalid}
use Rattle.model.specs.declared.Wait.{Wait}
use Rattle.model.specs.declared.Wait.TheVariants.{Endless, After}
use Rattle.words.specs.Words.{Bytes, pick, bit}
use Rattle.model.specs.Frames.{idle_data, settings_allowed}
use Rattle.model.specs.Times.{ticks, times, t_to, milliseconds, times_of, wait_of}
use Rattle.words.proofs.Words.{ways}
use Rattle.text.specs.Adding.{Adds}
use Rattle.text.specs.Writing.{word}
use Rattle.text.specs.declared.Text.{Text}
use Rattle.refusals.specs.Refusals.{refusal_text}
use Rattle.text.proofs.Adding.{by}
use Rattle.durations.specs.Milliseconds.{milliseconds_text, all_milliseconds, ticks_of, Countable, all_ticks_of, AllCountable}
use Rattle.durations.specs.Durations.{in_order, six, numbers, times_text, wait_text}
use Rattle.durations.proofs.Ticks.{six_counted}
use Rattle.model.specs.declared.Refusal.{Refusal}
use Rattle.model.specs.declared.Ticks.{Ticks}
use Rattle.model.specs.declared.Times.{Times}

-- an answer is the model's, and is known to be another; what is written of that is what is to be written of the settings
pub adds_answer : {A : Type 0} (said : A → List (List ℕ)) (wanted : Settings → List (List ℕ)) {s given : Settings} {answer model told : A}
    {old new : Text} → s ≡ given → said model ≡ wanted s → answer ≡ model → answer ≡ told → Adds old (said told) new → Adds old (wanted given) new
adds_answer said wanted same law is known adds =
    by wanted (sym same) (by (λ (parts : List (List ℕ)). parts) (sym law) (by said (sym is ∙ known) adds))

-- ---- times

abbrev pub timing_text : Result (Ticks × Times) Refusal → List (List ℕ)
timing_text (Ok (t, ms)) = word "ticks" ∷ (numbers (in_order t) ++ (word " ms" ∷ all_milliseconds (all_ticks_of ms)))
timing_text (Err refusal) = refusal_text refusal

abbrev pub TimingFits : Result (Ticks × Times) Refusal → Type 0
TimingFits (Ok (t, ms)) = AllCountable ms
TimingFits (Err refusal) = Unit {0}

-- ---- waits

abbrev pub waiting_text : Result Wait Refusal → List (List ℕ)
waiting_text (Ok Endless) = word "endless" ∷ []
waiting_text (Ok (After ms)) = word "after" ∷ (milliseconds_text (ticks_of ms) ++ (word " ms" ∷ []))
waiting_text (Err refusal) = refusal_text refusal

abbrev pub WaitingFits : Result Wait Refusal → Type 0
WaitingFits (Ok Endless) = Unit {0}
WaitingFits (Ok (After ms)) = Countable ms
WaitingFits (Err refusal) = Unit {0}

-- ---- of settings that are bytes

module _ (s : Settings) (byte : Bytes (idle_data s)) where
  timing : (b : Bool) → timing_text (pick b (Ok (ticks s, times s)) (Err Invalid))
      ≡ pick b (word "ticks" ∷ (numbers (six s) ++ (word " ms" ∷ all_milliseconds (six s)))) (refusal_text Invalid)
  timing true =
      let k = six_counted s byte in
      λ i. word "ticks" ∷ (numbers (six s) ++
      (word " ms" ∷ all_milliseconds (k.low.is i ∷ k.reference.is i ∷ k.inactive.is i ∷ k.timeout.is i ∷ k.osc.is i ∷ k.dac.is i ∷ [])))
  timing false = refl

  pub timing_is : timing_text (times_of s) ≡ times_text s
  timing_is = timing (settings_allowed s)

  pub timing_fits : TimingFits (times_of s)
  timing_fits =
      let k = six_counted s byte in
      ways TimingFits (settings_allowed s)
      (λ _. (k.low.fits, (k.reference.fits, (k.inactive.fits, (k.timeout.fits, (k.osc.fits, k.dac.fits)))))) (λ _. tt)

  waiting : (b d : Bool) → waiting_text (pick b (Ok (pick d (After (milliseconds (t_to s))) Endless)) (Err Invalid))
      ≡ pick b (pick d (word "after" ∷ (milliseconds_text (t_to s) ++ (word " ms" ∷ []))) (word "endless" ∷ [])) (refusal_text Invalid)
  waiting true true = ap (λ (n : ℕ). word "after" ∷ (milliseconds_text n ++ (word " ms" ∷ []))) (six_counted s byte).timeout.is
  waiting true false = refl
  waiting false d = refl

  pub waiting_is : waiting_text (wait_of s) ≡ wait_text s
  waiting_is = waiting (settings_allowed s) (bit 0 s.source)

  pub waiting_fits : WaitingFits (wait_of s)
  waiting_fits =
      ways WaitingFits (settings_allowed s)
      (λ _. ways (λ (w : Wait). WaitingFits (Ok w)) (bit 0 s.source) (λ _. (six_counted s byte).timeout.fits) (λ _. tt)) (λ _. tt)
