-- Bytes as texts that have names.
use Rattle.cedar_authoring.specs.declared.explaining.Named.{Named}
use Rattle.cedar_refusals.specs.Titles.{Titled}

abbrev pub titled : Named → Titled
titled of = record { name = of.name.now; text = of.bytes.now }
