-- The tasks and the places of links that were kept, each as a list.
use Rattle.std.specs.Prelude.{List, ℕ, map}
use Rattle.start_tables.specs.declared.Link.{Link}

abbrev pub tasks_of : List Link → List ℕ
tasks_of links = map (λ (l : Link). l.task) links

abbrev pub places_of : List Link → List ℕ
places_of links = map (λ (l : Link). l.place) links
