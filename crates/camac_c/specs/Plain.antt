-- What C is told where there is nothing to tell.
use Rattle.std.specs.Prelude.{ℕ, replicate}
use Rattle.camac_lang.specs.declared.word.WordSize.{WordSize}
use Rattle.camac_lang.specs.declared.word.WordSize.TheVariants.{Full, Short}
use Rattle.camac_c.specs.declared.plain.CamacWant.{CamacWant}
use Rattle.camac_c.specs.declared.plain.CamacProgress.{CamacProgress}
use Rattle.camac_c.specs.declared.plain.Told.{Told}

abbrev pub no_want : CamacWant
no_want = record { kind = 0; c = 0; n = 0; a = 0; f = 0; «data» = 0; waits = 0; width = 0; word = 0; of_block = replicate 3 0; is_short = 0 }

abbrev pub no_progress : CamacProgress
no_progress = record { kind = 0; c = 0; wait = 0; x = 0; q = 0; unused = replicate 3 0; unlocked = replicate 8 0; word = 0; pattern = 0; service = 0; event = 0; event_gl = 0; event_words = 0; event_cycles = 0; event_missed = 0; event_service = 0; cut = 0 }

abbrev pub only_code : ℕ → Told
only_code code = record { code = code; want = no_want; progress = no_progress; count = 0 }

-- 1 where a cycle moves 16 bits, as `cssa` does
abbrev pub short_in : WordSize → ℕ
short_in Full = 0
short_in Short = 1
