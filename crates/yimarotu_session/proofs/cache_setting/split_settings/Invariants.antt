use Rattle.std.proofs.Common.{◌≡◌, fold}
use Rattle.std.specs.Str.Lines.{lines}
use Rattle.yimarotu_session.specs.CacheSetting.{said_by, with_line}
use Rattle.yimarotu_session.proofs.cache_setting.split_settings.Given as goal

abbrev pub invariant-loop-line : goal.invariant-loop-line
invariant-loop-line l = fold with_line l.said (lines l.line-iterator.rest.now) ≡ said_by l.settings
