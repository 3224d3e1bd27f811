-- Joined trees: the definitions of both programs, then the rest of each in a block of its own.
use Rattle.language.specs.Trees.{block, Items, none, ◌then◌, ◌here◌, define}

-- The definitions at the front of a list, and then other items.
unfoldable pub front_then : Items → Items → Items
front_then none others = others
front_then (s then is) others = others
front_then (m here is) others = others
front_then (define f words body is) others = define f words body (front_then is others)

-- The items behind the definitions at the front of a list.
unfoldable pub behind_front : Items → Items
behind_front none = none
behind_front (s then is) = s then is
behind_front (m here is) = m here is
behind_front (define f words body is) = behind_front is

unfoldable pub joined_items : Items → Items → Items
joined_items first second = front_then first (front_then second (block (behind_front first) then block (behind_front second) then none))
