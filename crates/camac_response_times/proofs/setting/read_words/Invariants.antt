use Rattle.std.proofs.Common.{map, take}
use Rattle.camac_response_times.specs.Setting.{AreRead}
use Rattle.camac_response_times.proofs.setting.read_words.Given as goal

abbrev pub invariant-words : goal.invariant-words
invariant-words l = AreRead l.option (take l.word-index (map (λ w. w.now) l.words)) l.settings.items
