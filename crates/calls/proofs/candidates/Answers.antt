-- Whatever word begins with a letter is found among the rows of that letter as among all.
-- Assumes nothing.
use Rattle.std.proofs.Common.{◌≡◌, refl, sym, ◌∙◌, arith}
use Rattle.calls.proofs.Table.{headed}
use Rattle.calls.proofs.candidates.Goals as goal

pub returns-in-98 : goal.returns-in-98
returns-in-98 c = rw (headed c.args.word.now (sym c.at.ensures ∙ c.in-98.is) (λ (e : 32 ≡ 98). omega arith)) refl

pub returns-in-99 : goal.returns-in-99
returns-in-99 c = rw (headed c.args.word.now (sym c.at.ensures ∙ c.in-99.is) (λ (e : 32 ≡ 99). omega arith)) refl

pub returns-in-101 : goal.returns-in-101
returns-in-101 c = rw (headed c.args.word.now (sym c.at.ensures ∙ c.in-101.is) (λ (e : 32 ≡ 101). omega arith)) refl

pub returns-in-102 : goal.returns-in-102
returns-in-102 c = rw (headed c.args.word.now (sym c.at.ensures ∙ c.in-102.is) (λ (e : 32 ≡ 102). omega arith)) refl

pub returns-in-104 : goal.returns-in-104
returns-in-104 c = rw (headed c.args.word.now (sym c.at.ensures ∙ c.in-104.is) (λ (e : 32 ≡ 104). omega arith)) refl

pub returns-in-105 : goal.returns-in-105
returns-in-105 c = rw (headed c.args.word.now (sym c.at.ensures ∙ c.in-105.is) (λ (e : 32 ≡ 105). omega arith)) refl

pub returns-in-110 : goal.returns-in-110
returns-in-110 c = rw (headed c.args.word.now (sym c.at.ensures ∙ c.in-110.is) (λ (e : 32 ≡ 110). omega arith)) refl

pub returns-in-111 : goal.returns-in-111
returns-in-111 c = rw (headed c.args.word.now (sym c.at.ensures ∙ c.in-111.is) (λ (e : 32 ≡ 111). omega arith)) refl

pub returns-in-112 : goal.returns-in-112
returns-in-112 c = rw (headed c.args.word.now (sym c.at.ensures ∙ c.in-112.is) (λ (e : 32 ≡ 112). omega arith)) refl

pub returns-in-114 : goal.returns-in-114
returns-in-114 c = rw (headed c.args.word.now (sym c.at.ensures ∙ c.in-114.is) (λ (e : 32 ≡ 114). omega arith)) refl

pub returns-in-115 : goal.returns-in-115
returns-in-115 c = rw (headed c.args.word.now (sym c.at.ensures ∙ c.in-115.is) (λ (e : 32 ≡ 115). omega arith)) refl

pub returns-in-116 : goal.returns-in-116
returns-in-116 c = rw (headed c.args.word.now (sym c.at.ensures ∙ c.in-116.is) (λ (e : 32 ≡ 116). omega arith)) refl

pub returns-in-117 : goal.returns-in-117
returns-in-117 c = rw (headed c.args.word.now (sym c.at.ensures ∙ c.in-117.is) (λ (e : 32 ≡ 117). omega arith)) refl

pub returns-in-119 : goal.returns-in-119
returns-in-119 c = rw (headed c.args.word.now (sym c.at.ensures ∙ c.in-119.is) (λ (e : 32 ≡ 119). omega arith)) refl
