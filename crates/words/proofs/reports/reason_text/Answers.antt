-- `reports::reason_text` meets its contract: each number by its text, any other by `no_reason`.
use mathlib.Core.List.{[], ◌∷◌}
use mathlib.Core.Path.{refl}
use Rattle.words.specs.Parts.{bytes_before, place_of}
use Rattle.words.specs.Reports.{reasons, reason_texts, reason_text}
use Rattle.words.proofs.Texts.{no_reason}
use Rattle.words.proofs.reports.reason_text.Goals as goal

pub returns-in-101 : goal.returns-in-101
unfolding reason_text reason_texts reasons place_of bytes_before
returns-in-101 c = rw c.in-101.is

pub returns-in-102 : goal.returns-in-102
unfolding reason_text reason_texts reasons place_of bytes_before
returns-in-102 c = rw c.in-102.is

pub returns-in-103 : goal.returns-in-103
unfolding reason_text reason_texts reasons place_of bytes_before
returns-in-103 c = rw c.in-103.is

pub returns-in-104 : goal.returns-in-104
unfolding reason_text reason_texts reasons place_of bytes_before
returns-in-104 c = rw c.in-104.is

pub returns-in-105 : goal.returns-in-105
unfolding reason_text reason_texts reasons place_of bytes_before
returns-in-105 c = rw c.in-105.is

pub returns-in-106 : goal.returns-in-106
unfolding reason_text reason_texts reasons place_of bytes_before
returns-in-106 c = rw c.in-106.is

pub returns-in-107 : goal.returns-in-107
unfolding reason_text reason_texts reasons place_of bytes_before
returns-in-107 c = rw c.in-107.is

pub returns-in-108 : goal.returns-in-108
unfolding reason_text reason_texts reasons place_of bytes_before
returns-in-108 c = rw c.in-108.is

pub returns-in-109 : goal.returns-in-109
unfolding reason_text reason_texts reasons place_of bytes_before
returns-in-109 c = rw c.in-109.is

pub returns-in-110 : goal.returns-in-110
unfolding reason_text reason_texts reasons place_of bytes_before
returns-in-110 c = rw c.in-110.is

pub returns-in-111 : goal.returns-in-111
unfolding reason_text reason_texts reasons place_of bytes_before
returns-in-111 c = rw c.in-111.is

pub returns-in-112 : goal.returns-in-112
unfolding reason_text reason_texts reasons place_of bytes_before
returns-in-112 c = rw c.in-112.is

pub returns-in-113 : goal.returns-in-113
unfolding reason_text reason_texts reasons place_of bytes_before
returns-in-113 c = rw c.in-113.is

pub returns-in-114 : goal.returns-in-114
unfolding reason_text reason_texts reasons place_of bytes_before
returns-in-114 c = rw c.in-114.is

pub returns-in-115 : goal.returns-in-115
unfolding reason_text reason_texts reasons place_of bytes_before
returns-in-115 c = rw c.in-115.is

pub returns-in-116 : goal.returns-in-116
unfolding reason_text reason_texts reasons place_of bytes_before
returns-in-116 c = rw c.in-116.is

pub returns-in-11 : goal.returns-in-11
unfolding reason_text reason_texts reasons place_of bytes_before
returns-in-11 c = rw c.in-11.is

pub returns-in-13 : goal.returns-in-13
unfolding reason_text reason_texts reasons place_of bytes_before
returns-in-13 c = rw c.in-13.is

pub returns-in-14 : goal.returns-in-14
unfolding reason_text reason_texts reasons place_of bytes_before
returns-in-14 c = rw c.in-14.is

pub returns-in_default : goal.returns-in_default
unfolding reasons
returns-in_default c = no_reason (14 ∷ 13 ∷ 11 ∷ 116 ∷ 115 ∷ 114 ∷ 113 ∷ 112 ∷ 111 ∷ 110 ∷ 109 ∷ 108 ∷ 107 ∷ 106 ∷ 105 ∷ 104 ∷ 103 ∷ 102 ∷ 101 ∷ []) _ c.in_default.in_default-own.rest refl
