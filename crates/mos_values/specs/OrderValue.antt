-- Running orders, as contracts see them.
use Rattle.std.specs.Prelude.{List}
use Rattle.mos_values.specs.declared.header.Header.{Header}
use Rattle.mos_values.specs.StoryValue.{Story}

-- a header and stories
pub record OrderBody : Type 0 where
  pub header : Header
  pub stories : List Story
